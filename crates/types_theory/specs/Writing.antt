-- How a stack of kinds is written: the depth in one byte, then the two-byte codes of the kinds, from the bottom.
use Rattle.std.specs.Prelude.{ℕ, zero, suc, ◌+◌, ◌*◌, Bool, cond, ◌&&◌, List, [], ◌∷◌, ◌++◌, length, Ok, Err, Result, nat_le}
use Rattle.kinds.specs.declared.kind.Kind.{Kind}
use Rattle.kinds.specs.Codes.{kind_code, kind_of}
use Rattle.format.specs.Bytes.{byte_at, word_at, word}
use Rattle.format.specs.Parts.{Parts}
use Rattle.analysis_theory.specs.declared.fault.Unreadable.{Unreadable}
use Rattle.analysis_theory.specs.Meaning.{Got}
use Rattle.types_theory.specs.Order.{all_known}

-- the codes of a stack whose top comes first
abbrev pub codes_up : List Kind → List ℕ
codes_up [] = []
codes_up (top ∷ ks) = codes_up ks ++ word (kind_code top)

abbrev pub stack_bytes : List Kind → List ℕ
stack_bytes ks = length ks ∷ codes_up ks

-- the stack of so many kinds that stand behind the first byte
abbrev pub kinds_in : List ℕ → ℕ → List Kind
kinds_in bs zero = []
kinds_in bs (suc d) = kind_of (word_at bs (1 + 2 * d)) ∷ kinds_in bs d

-- whether bytes begin with the writing of a stack of so many kinds: the depth is one that the head allows, all bytes are
-- there, and the unit has the kinds
abbrev pub readable : Parts → List ℕ → ℕ → Bool
readable p bs d = nat_le 1 (length bs) && (nat_le d p.depth && (nat_le (1 + 2 * d) (length bs) && all_known p (kinds_in bs d)))

abbrev pub stack_read : Parts → List ℕ → Result (Got (List Kind)) Unreadable
stack_read p bs =
    cond (readable p bs (byte_at bs 0)) (Ok (record { state = kinds_in bs (byte_at bs 0); length = 1 + 2 * byte_at bs 0 }))
    (Err (record { layer = 1 }))
