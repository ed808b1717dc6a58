use Rattle.std.proofs.Common.{Bool, Decides}
use Rattle.kinds.specs.declared.kind.Kind.TheVariants.{Class}
use Rattle.unit.specs.Model.{parts_of}
use Rattle.lattice.specs.Order.{Below}
use Rattle.tree.proofs.descends.Given as goal

-- what decides for the class reached decides for the first
abbrev pub invariant-loop-at : goal.invariant-loop-at
invariant-loop-at l = (r : Bool) → Decides r (Below (parts_of l.unit) (Class l.at) (Class l.to)) → Decides r (Below (parts_of l.unit) (Class l.from) (Class l.to))

abbrev pub decreases-loop-at : goal.decreases-loop-at
decreases-loop-at l = l.at
