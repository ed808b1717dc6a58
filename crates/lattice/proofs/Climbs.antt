-- What lies above a class is the class itself, or lies above its parent.
use Rattle.std.proofs.Common.{◌≡◌, ℕ, ◌<◌, ◌≤◌, Bool, length, Decides, refl, ap, subst, ⊎_elim, arith}
use Rattle.std.proofs.lemmas.Bool.Decides.{Decides-like}
use Rattle.kinds.specs.declared.kind.Kind.{Kind}
use Rattle.kinds.specs.declared.kind.Kind.TheVariants.{Class}
use Rattle.format.specs.Parts.{Parts, parent_of}
use Rattle.lattice.specs.Order.{Ancestor, parent, Below, same, ancestor}
use Rattle.lattice.proofs.Ancestors.{ancestor_step}
use Rattle.lattice.proofs.Orders.{below_further}
use Rattle.lattice.proofs.Plain.{below_equal}

pub below_other : (p : Parts) (c d : ℕ) → (c ≡ d → ⊥) → Below p (Class c) (Class d) → Ancestor p c d
below_other p c d ne same = absurd (ne refl)
below_other p c d ne (ancestor a) = a

pub below_parent : (p : Parts) (c : ℕ) (k : Kind) → 0 < c → c < length p.classes → Below p (Class (parent_of p c)) k → Below p (Class c) k
below_parent p c k z l h = below_further p (ancestor (parent z l)) h

pub parent_below : (p : Parts) (c d : ℕ) → Ancestor p c d → Below p (Class (parent_of p c)) (Class d)
parent_below p c d a =
    ⊎_elim
    (λ (e : parent_of p c ≡ d). below_equal p (Class (parent_of p c)) (Class d) (ap Class e))
    (λ (b : Ancestor p (parent_of p c) d). ancestor b)
    (ancestor_step p a).next

-- a class lies below one that it is not exactly if its parent does
pub climb_decides : (p : Parts) (c d up : ℕ) → (c ≡ d → ⊥) → 0 < c → c < length p.classes → up ≡ parent_of p c → (r : Bool) → Decides r (Below p (Class up) (Class d)) → Decides r (Below p (Class c) (Class d))
climb_decides p c d up ne z l e r h =
    Decides-like r (below_parent p c (Class d) z l) (λ b. parent_below p c d (below_other p c d ne b))
    (subst (λ (n : ℕ). Decides r (Below p (Class n) (Class d))) e h)

-- the root has no ancestors, nor has a class that the unit has not
pub root_none : (p : Parts) (c d : ℕ) → c ≡ 0 → Ancestor p c d → ⊥
root_none p c d e a = let z = (ancestor_step p a).inner in omega arith

pub unknown_none : (p : Parts) (c d : ℕ) → length p.classes ≤ c → Ancestor p c d → ⊥
unknown_none p c d l a = let k = (ancestor_step p a).known in omega arith
