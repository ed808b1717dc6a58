use Rattle.std.proofs.Common.{◌<◌, length, ap, arith}
use Rattle.types.specs.Cells.{stack_length}
use Rattle.types.proofs.Cells.{cells_push}
use Rattle.types.proofs.operands.Operands.push.Goals as goal

pub invariant_of-self : goal.invariant_of-self
invariant_of-self c =
    let room : c.self.inside.depth < 16 =
    omega (arith, c.requires, ap length c.self.view_is, stack_length c.self.inside c.self.invariant) in
    cells_push c.self.inside c.args.kind c.self.invariant room
