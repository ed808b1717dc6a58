-- What is expected of a step, from what is expected of the pieces that it is made of.
use Rattle.std.proofs.Common.{ℕ, ◌+◌, ◌≤◌, Bool, true, false, cond, leb, List, length, sym, subst, le-leb}
use Rattle.format.specs.Parts.{Parts}
use Rattle.machine.specs.Values.{Value}
use Rattle.machine.specs.Configuration.{Configuration, Outcome, goes, returned, stopped, fault}
use Rattle.machine.specs.Step.{allowed, next, goes_at}
use Rattle.machine.specs.Ways.{Expects}

module _ (P : Configuration → Type 0) (F : ℕ → Type 0) where
  -- a choice leads to one of two outcomes
  pub either_expected : (b : Bool) (x y : Outcome) → Expects P F x → Expects P F y → Expects P F (cond b x y)
  either_expected true x y h k = h
  either_expected false x y h k = k

  -- the check of the depth lets the run go on, or is fault 2
  pub allowed_expected : (p : Parts) (c : Configuration) → P c → F 2 → Expects P F (allowed p c)
  allowed_expected p c h k = either_expected (leb (length c.operands) p.depth) (goes c) (fault 2) h k

  pub next_expected : (p : Parts) (c : Configuration) (vs : List Value) → P (goes_at c (c.at + 1) vs) → F 2 → Expects P F (next p c vs)
  next_expected p c vs h k = allowed_expected p (goes_at c (c.at + 1) vs) h k

  -- where the operands are no more than the head allows, the check of the depth passes
  pub shallow_expected : (p : Parts) (c : Configuration) → length c.operands ≤ p.depth → P c → Expects P F (allowed p c)
  shallow_expected p c l h =
      subst (λ (b : Bool). Expects P F (cond b (goes c) (fault 2))) (sym (le-leb (length c.operands) p.depth l)) h

-- what is expected can be weakened
pub weaker_expected : (P Q : Configuration → Type 0) (F G : ℕ → Type 0) (o : Outcome) → ((d : Configuration) → P d → Q d) → ((f : ℕ) → F f → G f) → Expects P F o → Expects Q G o
weaker_expected P Q F G (goes d) h k e = h d e
weaker_expected P Q F G (returned b) h k e = tt
weaker_expected P Q F G (stopped s) h k e = tt
weaker_expected P Q F G (fault f) h k e = k f e
