use Rattle.unit.specs.Model.{parts_of}
use Rattle.listing.specs.Targets.{Marked}
use Rattle.listing.proofs.targets.targets.Given as goal

abbrev pub invariant-loop-at : goal.invariant-loop-at
invariant-loop-at l = Marked (parts_of l.unit) l.at l.marks
