-- "Lies below" is a partial order.
use Rattle.std.proofs.Common.{◌≡◌, refl, arith}
use Rattle.kinds.specs.declared.kind.Kind.{Kind}
use Rattle.format.specs.Parts.{Parts}
use Rattle.format.specs.Rules.{Keeps}
use Rattle.lattice.specs.Order.{Below, same, unusable, null, ancestor, Order, Lower}
use Rattle.lattice.proofs.Ancestors.{ancestor_lower, ancestor_further}

pub below_further : (p : Parts) {a b c : Kind} → Below p a b → Below p b c → Below p a c
below_further p (ancestor a) (ancestor b) = ancestor (ancestor_further p a b)
below_further p null (ancestor b) = null
below_further p same h = h
below_further p h same = h
below_further p h unusable = unusable

pub below_both : (p : Parts) → Lower p → {a b : Kind} → Below p a b → Below p b a → a ≡ b
below_both p low same h = refl
below_both p low unusable same = refl
below_both p low unusable unusable = refl
below_both p low null h = elim h [ ]
below_both p low (ancestor a) same = refl
below_both p low (ancestor a) (ancestor b) = let h = ancestor_lower p low a in let k = ancestor_lower p low b in absurd (omega arith)

-- where parents have lower numbers, "lies below" is a partial order
pub lower_order : (p : Parts) → Lower p → Order p
lower_order p low =
    record { reflexive = λ a. same; transitive = λ a b c. below_further p; antisymmetric = λ a b. below_both p low }

-- where the rules are kept, parents have lower numbers
pub keeps_lower : (p : Parts) → Keeps p → Lower p
keeps_lower p k c z l = (k.classes_keep c l).lower z
