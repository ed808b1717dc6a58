-- What taking operands off a stack answers and leaves.
use Rattle.std.specs.Prelude.{◌≡◌, ℕ, cond, List, [], ◌∷◌, Some, None, Ok, Err, Option, Result}
use Rattle.kinds.specs.declared.kind.Kind.{Kind}
use Rattle.opcodes.specs.declared.opcode.Shape.{Shape}
use Rattle.format.specs.Parts.{Parts}
use Rattle.analysis_theory.specs.declared.fault.Cause.{Cause}
use Rattle.analysis_theory.specs.declared.fault.Cause.TheVariants.{TooFew, Misfit}
use Rattle.analysis_theory.specs.declared.fault.Fault.{Fault}
use Rattle.types_theory.specs.Effect.{suits, type_fault}

-- the top one, where there is one
abbrev pub Popped : List Kind → Option Kind → List Kind → Type 0
Popped [] r after = (r ≡ None) × (after ≡ [])
Popped (k ∷ ks) r after = (r ≡ Some k) × (after ≡ ks)

-- all that an instruction takes, where its definition leaves o
abbrev pub Taken : Result (List Kind) Cause → Result (Unit {0}) Fault → List Kind → Type 0
Taken (Ok ks) r after = (r ≡ Ok tt) × (after ≡ ks)
Taken (Err c) r after = r ≡ Err (type_fault c)

-- one operand of a shape, which stood at a distance from the top
abbrev pub TakenOne : Parts → ℕ → Shape → ℕ → List Kind → Result (Unit {0}) Fault → List Kind → Type 0
TakenOne p n s d [] r after = r ≡ Err (type_fault TooFew)
TakenOne p n s d (k ∷ ks) r after = Taken (cond (suits p n s k) (Ok ks) (Err (Misfit d))) r after

-- the stack with what an instruction leaves, where its definition gives o
abbrev pub Left : Result (List Kind) Fault → Result (Unit {0}) Fault → List Kind → Type 0
Left (Ok ks) r after = (r ≡ Ok tt) × (after ≡ ks)
Left (Err f) r after = r ≡ Err f
