-- All that `below` and `join` promise of an answer, from what makes it right.
use Rattle.std.proofs.Common.{◌≡◌, Bool, Decides}
use Rattle.std.proofs.lemmas.Bool.Decides.{same_from_decides}
use Rattle.kinds.specs.declared.kind.Kind.{Kind}
use Rattle.lattice.specs.Order.{Below, Order, Least}
use Rattle.lattice.specs.Computing.{lies, least_of}
use Rattle.lattice.proofs.Orders.{lower_order}
use Rattle.lattice.proofs.Computed.{lies_decides, least_of_is_least, least_unique}
use Rattle.unit.specs.declared.unit.Unit.{Unit}
use Rattle.unit.specs.Model.{parts_of}
use Rattle.tree.proofs.Parents.{unit_lower}

-- the kinds of a unit are ordered
pub unit_order : (u : Unit) → Order (parts_of u)
unit_order u = lower_order (parts_of u) (unit_lower u)

-- what decides the order is what its test computes
abbrev pub BelowAnswer : Unit → Kind → Kind → Bool → Type 0
BelowAnswer u a b r = record { decides : Decides r (Below (parts_of u) a b); value : r ≡ lies (parts_of u) a b; order : Order (parts_of u) }

pub below_answer : (u : Unit) (a b : Kind) (r : Bool) → Decides r (Below (parts_of u) a b) → BelowAnswer u a b r
below_answer u a b r h =
    record {
      decides = h;
      value = same_from_decides r (lies (parts_of u) a b) h (lies_decides (parts_of u) (unit_lower u) a b);
      order = unit_order u;
    }

-- the least kind is the one that climbing finds
abbrev pub JoinAnswer : Unit → Kind → Kind → Kind → Type 0
JoinAnswer u a b r = record { least : Least (parts_of u) a b r; value : r ≡ least_of (parts_of u) a b }

pub join_answer : (u : Unit) (a b r : Kind) → Least (parts_of u) a b r → JoinAnswer u a b r
join_answer u a b r h =
    record { least = h; value = least_unique (parts_of u) (unit_lower u) a b r (least_of (parts_of u) a b) h (least_of_is_least (parts_of u) (unit_lower u) a b) }
