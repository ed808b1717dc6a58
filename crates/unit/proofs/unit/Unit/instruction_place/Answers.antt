use Rattle.std.proofs.Common.{arith}
use Rattle.format.proofs.Bounds.{kept_bounds}
use Rattle.unit.proofs.unit.Unit.instruction_place.Goals as goal

pub record_place-requires : goal.record_place-requires
record_place-requires c = let b = kept_bounds c.args.self.now.bytes.now c.args.self.now.layout c.args.self.now.reads in omega arith
