use Rattle.unit.proofs.Kept.{unit_keeps}
use Rattle.unit.proofs.unit.Unit.keeps_rules.Goals as goal

pub returns : goal.returns
returns c = unit_keeps c.args.self.now c.are_bytes.ensures
