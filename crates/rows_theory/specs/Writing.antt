-- The writing of a state: one byte, 0, 1 or 2.
use Rattle.std.specs.Prelude.{ℕ, cond, List, [], ◌∷◌, length, Some, None, Ok, Err, Option, Result, ◌==◌, nat_le}
use Rattle.format.specs.Bytes.{byte_at}
use Rattle.analysis_theory.specs.declared.fault.Unreadable.{Unreadable}
use Rattle.analysis_theory.specs.Meaning.{Got}
use Rattle.rows_theory.specs.declared.state.RowState.{RowState}
use Rattle.rows_theory.specs.declared.state.RowState.TheVariants.{Empty, Held, Perhaps}

abbrev pub row_byte : RowState → ℕ
row_byte Empty = 0
row_byte Held = 1
row_byte Perhaps = 2

abbrev pub row_bytes : RowState → List ℕ
row_bytes s = row_byte s ∷ []

-- other bytes are no state's
abbrev pub row_of_byte : ℕ → Option RowState
row_of_byte b = cond (b == 0) (Some Empty) (cond (b == 1) (Some Held) (cond (b == 2) (Some Perhaps) None))

-- the state that a byte is the writing of, or a refusal under layer 3
abbrev pub row_state : Option RowState → Result RowState Unreadable
row_state (Some s) = Ok s
row_state None = Err (record { layer = 3 })

abbrev pub row_read : ℕ → Result RowState Unreadable
row_read b = row_state (row_of_byte b)

abbrev pub row_got : Option RowState → Result (Got RowState) Unreadable
row_got (Some s) = Ok (record { state = s; length = 1 })
row_got None = Err (record { layer = 3 })

-- the state that bytes begin with; where there are none, none is read
abbrev pub row_parsed : List ℕ → Result (Got RowState) Unreadable
row_parsed bs = row_got (cond (nat_le 1 (length bs)) (row_of_byte (byte_at bs 0)) None)
