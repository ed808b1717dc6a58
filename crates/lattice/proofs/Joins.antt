-- The least kind above two classes, by climbing from the larger number.
use Rattle.std.proofs.Common.{◌≡◌, ℕ, ◌<◌, ◌≤◌, length, subst, arith}
use Rattle.kinds.specs.declared.kind.Kind.{Kind}
use Rattle.kinds.specs.declared.kind.Kind.TheVariants.{Unusable, Class}
use Rattle.format.specs.Parts.{Parts, parent_of}
use Rattle.lattice.specs.Order.{Below, same, unusable, ancestor, Least, Lower}
use Rattle.lattice.proofs.Ancestors.{ancestor_lower}
use Rattle.lattice.proofs.Climbs.{below_parent, parent_below, unknown_none}

-- a class does not lie above one of lower number
not_above : (p : Parts) → Lower p → (c d : ℕ) → d < c → Below p (Class d) (Class c) → ⊥
not_above p low c d l same = omega arith
not_above p low c d l (ancestor a) = let h = ancestor_lower p low a in omega arith

-- what lies above two classes lies above the larger one's parent
both_above : (p : Parts) → Lower p → (c d : ℕ) (m : Kind) → d < c → Below p (Class c) m → Below p (Class d) m → Below p (Class (parent_of p c)) m
both_above p low c d m l same b = absurd (not_above p low c d l b)
both_above p low c d m l unusable b = unusable
both_above p low c d m l (ancestor {d = e} a) b = parent_below p c e a

-- what is least above the larger one's parent and the other is least above the two
pub climb_least : (p : Parts) → Lower p → (c d up : ℕ) (k : Kind) → d < c → c < length p.classes → up ≡ parent_of p c → Least p (Class up) (Class d) k → Least p (Class c) (Class d) k
climb_least p low c d up k l n e h =
    let g : Least p (Class (parent_of p c)) (Class d) k = subst (λ (x : ℕ). Least p (Class x) (Class d) k) e h in
    record {
      above_left = below_parent p c k (omega arith) n g.above_left;
      above_right = g.above_right;
      least = λ m x y. g.least m (both_above p low c d m l x y) y;
    }

-- above a class that the unit has not and one of lower number lies only unusable
lone_above : (p : Parts) → Lower p → (c d : ℕ) (m : Kind) → d < c → length p.classes ≤ c → Below p (Class c) m → Below p (Class d) m → Below p Unusable m
lone_above p low c d m l n same b = absurd (not_above p low c d l b)
lone_above p low c d m l n unusable b = same
lone_above p low c d m l n (ancestor {d = e} a) b = absurd (unknown_none p c e n a)

pub lone_least : (p : Parts) → Lower p → (c d : ℕ) → d < c → length p.classes ≤ c → Least p (Class c) (Class d) Unusable
lone_least p low c d l n = record { above_left = unusable; above_right = unusable; least = λ m x y. lone_above p low c d m l n x y }
