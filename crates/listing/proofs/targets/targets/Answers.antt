use Rattle.unit.specs.Model.{parts_of}
use Rattle.listing.proofs.Marks.{marked_none}
use Rattle.listing.proofs.targets.targets.Goals as goal

pub loop-at-init : goal.loop-at-init
loop-at-init c = marked_none (parts_of c.args.unit.now) 1024
