use Rattle.std.proofs.Common.{◌≡◌, ◌+◌, arith}
use Rattle.types.proofs.Cells.{cells_pop}
use Rattle.types.proofs.operands.Operands.pop.Goals as goal

pub invariant_of-self : goal.invariant_of-self
invariant_of-self c =
    let some = c.in_ok-top.ensures in
    let depth : c.self.inside.depth ≡ c.in_ok-top.top + 1 = omega arith in
    cells_pop c.self.inside c.in_ok-top.top c.self.invariant depth
