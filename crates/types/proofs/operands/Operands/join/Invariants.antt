use Rattle.unit.specs.Model.{parts_of}
use Rattle.types.proofs.Upward.{JoinedTo}
use Rattle.types.proofs.operands.Operands.join.Given as goal

-- the kinds at the bottom are joined, and it is told whether one of them rose
abbrev pub invariant-loop-i : goal.invariant-loop-i
invariant-loop-i l = JoinedTo (parts_of l.unit) l.fn.self l.other l.i l.joined l.rose
