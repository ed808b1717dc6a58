use Rattle.std.proofs.Common.{◌+◌}
use Rattle.kinds.specs.declared.kind.Kind.{Kind}
use Rattle.kinds.specs.declared.kind.Kind.TheVariants.{Class}
use Rattle.unit.specs.Model.{parts_of}
use Rattle.lattice.specs.Order.{Least}
use Rattle.tree.proofs.join_classes.Given as goal

-- what is least above the classes reached is least above the first two
abbrev pub invariant-loop-left : goal.invariant-loop-left
invariant-loop-left l = (k : Kind) → Least (parts_of l.unit) (Class l.left) (Class l.right) k → Least (parts_of l.unit) (Class l.first) (Class l.second) k

abbrev pub decreases-loop-left : goal.decreases-loop-left
decreases-loop-left l = l.left + l.right
