-- Two operands taken off one after the other are taken off as the table says.
use Rattle.std.proofs.Common.{◌≡◌, ℕ, ◌≤◌, Bool, true, false, cond, List, [], ◌∷◌, length, Ok, Err, Result, subst, arith}
use Rattle.kinds.specs.declared.kind.Kind.{Kind}
use Rattle.opcodes.specs.declared.opcode.Shape.{Shape}
use Rattle.opcodes.specs.declared.opcode.Takes.TheVariants.{Two}
use Rattle.format.specs.Parts.{Parts}
use Rattle.analysis_theory.specs.declared.fault.Cause.TheVariants.{Misfit}
use Rattle.analysis_theory.specs.declared.fault.Fault.{Fault}
use Rattle.types_theory.specs.Effect.{suits, taken, type_fault}
use Rattle.types.specs.Popping.{Taken, TakenOne}

module _ (p : Parts) (n : ℕ) (a b : Shape) (r : Result (Unit {0}) Fault) (after : List Kind) where
  -- the upper operand does not fit
  pub upper : (ks mid : List Kind) (f : Fault) → 2 ≤ length ks → TakenOne p n b 0 ks (Err f) mid → r ≡ Err f → Taken (taken p n (Two a b) ks) r after
  upper [] mid f l h e = absurd (omega arith)
  upper (k ∷ []) mid f l h e = absurd (omega arith)
  upper (k ∷ j ∷ ks) mid f l h e = go (suits p n b k) h
    where
      go : (t : Bool) → Taken (cond t (Ok (j ∷ ks)) (Err (Misfit 0))) (Err f) mid → Taken (cond t (cond (suits p n a j) (Ok ks) (Err (Misfit 1))) (Err (Misfit 0))) r after
      go true h = absurd (let q = h.0 in grind arith)
      go false h = let q : f ≡ type_fault (Misfit 0) = grind arith in cc

  -- the upper operand fits, and the lower one decides
  pub lower : (ks mid : List Kind) → 2 ≤ length ks → TakenOne p n b 0 ks (Ok tt) mid → TakenOne p n a 1 mid r after → Taken (taken p n (Two a b) ks) r after
  lower [] mid l h m = absurd (omega arith)
  lower (k ∷ []) mid l h m = absurd (omega arith)
  lower (k ∷ j ∷ ks) mid l h m = go (suits p n b k) h
    where
      go : (t : Bool) → Taken (cond t (Ok (j ∷ ks)) (Err (Misfit 0))) (Ok tt) mid → Taken (cond t (cond (suits p n a j) (Ok ks) (Err (Misfit 1))) (Err (Misfit 0))) r after
      go true h = subst (λ (js : List Kind). TakenOne p n a 1 js r after) h.1 m
      go false h = absurd (grind arith)
