-- What an instruction makes of what is known of the row: post takes a row where none is held, return gives one where one is
-- held, and all others leave it.
use Rattle.std.specs.Prelude.{ℕ, cond, length, Ok, Err, Result, nat_lt}
use Rattle.opcodes.specs.declared.opcode.Opcode.{Opcode}
use Rattle.opcodes.specs.declared.opcode.Opcode.TheVariants.{Push, Nil, Load, Store, Drop, Add, Less, Jump, Branch, Brnull, New, Get, Put, Post, Return}
use Rattle.format.specs.Parts.{Parts, instruction_of}
use Rattle.analysis_theory.specs.declared.fault.Cause.{Cause}
use Rattle.analysis_theory.specs.declared.fault.Cause.TheVariants.{RowHeld, NoRow, Outside}
use Rattle.analysis_theory.specs.declared.fault.Fault.{Fault}
use Rattle.rows_theory.specs.declared.state.RowState.{RowState}
use Rattle.rows_theory.specs.declared.state.RowState.TheVariants.{Empty, Held, Perhaps}

-- a fault of this analysis, whose layer is 3
abbrev pub row_fault : Cause → Fault
row_fault w = record { layer = 3; cause = w }

abbrev pub posting : RowState → Result RowState Fault
posting Empty = Ok Held
posting Held = Err (row_fault RowHeld)
posting Perhaps = Err (row_fault RowHeld)

abbrev pub returning : RowState → Result RowState Fault
returning Empty = Err (row_fault NoRow)
returning Held = Ok Held
returning Perhaps = Err (row_fault NoRow)

abbrev pub row_by : Opcode → RowState → Result RowState Fault
row_by Push s = Ok s
row_by Nil s = Ok s
row_by Load s = Ok s
row_by Store s = Ok s
row_by Drop s = Ok s
row_by Add s = Ok s
row_by Less s = Ok s
row_by Jump s = Ok s
row_by Branch s = Ok s
row_by Brnull s = Ok s
row_by New s = Ok s
row_by Get s = Ok s
row_by Put s = Ok s
row_by Post s = posting s
row_by Return s = returning s

-- instruction i, and a fault where there is none
abbrev pub row_after : Parts → ℕ → RowState → Result RowState Fault
row_after p i s = cond (nat_lt i (length p.code)) (row_by (instruction_of p i).opcode s) (Err (row_fault Outside))
