-- What the instructions do with the row, in three cases: post, return, and all others, which leave what is known of it.
use Rattle.std.specs.Prelude.{◌≡◌, ℕ, ◌<◌, Bool, true, false, cond, length, Ok, Err, Result, ◌==◌, ◌≢◌, nat_lt, refl}
use Rattle.std.proofs.Common.{ap, arith}
use Rattle.std.proofs.lemmas.Bool.{eqb-false, ltb-true}
use Rattle.opcodes.specs.declared.opcode.Opcode.{Opcode}
use Rattle.opcodes.specs.declared.opcode.Opcode.TheVariants.{Post, Return}
use Rattle.opcodes.specs.Numbers.{opcode_number}
use Rattle.format.specs.Parts.{Parts, instruction_of}
use Rattle.analysis_theory.specs.declared.fault.Cause.TheVariants.{Outside}
use Rattle.analysis_theory.specs.declared.fault.Fault.{Fault}
use Rattle.rows_theory.specs.declared.state.RowState.{RowState}
use Rattle.rows_theory.specs.declared.state.RowState.TheVariants.{Empty, Held}
use Rattle.rows_theory.specs.Effect.{posting, returning, row_by, row_after, row_fault}

pub data Use : Opcode → Type 0 where
  posts : Use Post
  returns : Use Return
  leaves : {o : Opcode} → (o ≢ Post) → (o ≢ Return) → ((s : RowState) → row_by o s ≡ Ok s) → Use o

-- instructions are told apart by their numbers
pub apart : (o q : Opcode) → (opcode_number o == opcode_number q) ≡ false → o ≢ q
apart o q f e = eqb-false _ _ f (ap opcode_number e)

pub use_of : (o : Opcode) → Use o
use_of Post = posts
use_of Return = returns
use_of o = leaves (λ e. cc) (λ e. cc) (λ s. refl)

-- a refusal is no acceptance
pub refused_not_accepted : {f : Fault} {t : RowState} → ◌≡◌ {A = Result RowState Fault} (Err f) (Ok t) → ⊥
refused_not_accepted e = grind arith

pub accepted_same : {s t : RowState} → ◌≡◌ {A = Result RowState Fault} (Ok s) (Ok t) → s ≡ t
accepted_same e = cc

-- post is accepted only where no row is held, and leaves one
pub posted : (s t : RowState) → posting s ≡ Ok t → (s ≡ Empty) × (t ≡ Held)
posted s t e = (grind arith, grind arith)

-- return is accepted only where a row is held, and leaves it
pub returned : (s t : RowState) → returning s ≡ Ok t → (s ≡ Held) × (t ≡ Held)
returned s t e = (grind arith, grind arith)

-- an instruction that is accepted stands inside the code, and is accepted for what it does there
inside_by : (b : Bool) (r : Result RowState Fault) (t : RowState) → cond b r (Err (row_fault Outside)) ≡ Ok t → (b ≡ true) × (r ≡ Ok t)
inside_by b r t e = (grind arith, grind arith)

pub inside : (p : Parts) (i : ℕ) (s t : RowState) → row_after p i s ≡ Ok t → (i < length p.code) × (row_by (instruction_of p i).opcode s ≡ Ok t)
inside p i s t e =
    let b = inside_by (nat_lt i (length p.code)) (row_by (instruction_of p i).opcode s) t e in
    (ltb-true _ _ b.0, b.1)
