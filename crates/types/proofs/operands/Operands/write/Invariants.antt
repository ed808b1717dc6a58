use Rattle.types.proofs.Coding.{Coded}
use Rattle.types.proofs.operands.Operands.write.Given as goal

abbrev pub invariant-loop-i : goal.invariant-loop-i
invariant-loop-i l = Coded l.kinds l.fn.out l.out l.i
