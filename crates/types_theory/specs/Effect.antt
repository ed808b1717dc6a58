-- What an instruction makes of a stack of kinds. It follows the opcode table, as the tagged machine does, with "conforms" read
-- as "lies below": too few operands, an operand that does not fit, looked for from the top, and last too many operands.
use Rattle.std.specs.Prelude.{ℕ, ◌/◌, ◌%◌, Bool, true, false, cond, List, [], ◌∷◌, length, Some, None, Ok, Err, Option, Result, nat_le, nat_lt}
use Rattle.kinds.specs.declared.kind.Kind.{Kind}
use Rattle.kinds.specs.declared.kind.Kind.TheVariants.{Int, Null, Unusable, Class}
use Rattle.opcodes.specs.declared.opcode.Shape.{Shape}
use Rattle.opcodes.specs.declared.opcode.Shape.TheVariants.{Int as AnInt, Null as ANull, Ref as ARef, Any as AnyValue, OfSlot, OfClass, OfOwner, OfField}
use Rattle.opcodes.specs.declared.opcode.Takes.{Takes}
use Rattle.opcodes.specs.declared.opcode.Takes.TheVariants.{Nothing, One, Two}
use Rattle.opcodes.specs.declared.opcode.Instruction.{Instruction}
use Rattle.opcodes.specs.Table.{line_of}
use Rattle.format.specs.Parts.{Parts, slot_of, field_of, instruction_of}
use Rattle.lattice.specs.Computing.{lies}
use Rattle.analysis_theory.specs.declared.fault.Cause.{Cause}
use Rattle.analysis_theory.specs.declared.fault.Cause.TheVariants.{TooFew, TooDeep, Misfit, Outside}
use Rattle.analysis_theory.specs.declared.fault.Fault.{Fault}

-- a reference is null or an object of some class
abbrev pub is_reference : Kind → Bool
is_reference Int = false
is_reference Null = true
is_reference Unusable = false
is_reference (Class c) = true

-- the kind that a shape of the table stands for, where the instruction's number is n. Values that may be anything are unusable.
abbrev pub kind_of_shape : Parts → ℕ → Shape → Kind
kind_of_shape p n AnInt = Int
kind_of_shape p n ANull = Null
kind_of_shape p n ARef = Unusable
kind_of_shape p n AnyValue = Unusable
kind_of_shape p n OfSlot = slot_of p n
kind_of_shape p n OfClass = Class n
kind_of_shape p n OfOwner = Class (n / 8)
kind_of_shape p n OfField = field_of p (n / 8) (n % 8)

-- whether an operand of a kind is what the table asks for
abbrev pub suits : Parts → ℕ → Shape → Kind → Bool
suits p n AnInt k = lies p k (kind_of_shape p n AnInt)
suits p n ANull k = lies p k (kind_of_shape p n ANull)
suits p n ARef k = is_reference k
suits p n AnyValue k = lies p k (kind_of_shape p n AnyValue)
suits p n OfSlot k = lies p k (kind_of_shape p n OfSlot)
suits p n OfClass k = lies p k (kind_of_shape p n OfClass)
suits p n OfOwner k = lies p k (kind_of_shape p n OfOwner)
suits p n OfField k = lies p k (kind_of_shape p n OfField)

-- the stack without what an instruction takes
abbrev pub taken : Parts → ℕ → Takes → List Kind → Result (List Kind) Cause
taken p n Nothing ks = Ok ks
taken p n (One a) [] = Err TooFew
taken p n (One a) (k ∷ ks) = cond (suits p n a k) (Ok ks) (Err (Misfit 0))
taken p n (Two a b) [] = Err TooFew
taken p n (Two a b) (k ∷ []) = Err TooFew
taken p n (Two a b) (k ∷ j ∷ ks) = cond (suits p n b k) (cond (suits p n a j) (Ok ks) (Err (Misfit 1))) (Err (Misfit 0))

-- the stack with what an instruction leaves
abbrev pub left : Parts → ℕ → Option Shape → List Kind → List Kind
left p n None ks = ks
left p n (Some a) ks = kind_of_shape p n a ∷ ks

-- a fault of this analysis, whose layer is 1
abbrev pub type_fault : Cause → Fault
type_fault c = record { layer = 1; cause = c }

abbrev pub shallow : Parts → List Kind → Result (List Kind) Fault
shallow p ks = cond (nat_le (length ks) p.depth) (Ok ks) (Err (type_fault TooDeep))

abbrev pub then_leaves : Parts → ℕ → Option Shape → Result (List Kind) Cause → Result (List Kind) Fault
then_leaves p n shape (Ok ks) = shallow p (left p n shape ks)
then_leaves p n shape (Err c) = Err (type_fault c)

abbrev pub effect_of : Parts → Instruction → List Kind → Result (List Kind) Fault
effect_of p x ks =
    then_leaves p x.operand (line_of x.opcode).leaves (taken p x.operand (line_of x.opcode).takes ks)

abbrev pub effect_made_at : Parts → ℕ → List Kind → Result (List Kind) Fault
effect_made_at p i ks = cond (nat_lt i (length p.code)) (effect_of p (instruction_of p i) ks) (Err (type_fault Outside))
