use Rattle.unit.specs.Model.{parts_of}
use Rattle.views.proofs.Onward.{begins}
use Rattle.views.proofs.way.Way.begin.Goals as goal

pub returns : goal.returns
returns c = begins (parts_of c.args.unit.now) c.start-state.result c.start-state.ensures
