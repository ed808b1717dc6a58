use Rattle.std.proofs.Common.{◌≡◌, take, reverse}
use Rattle.types.proofs.operands.Operands.from_slice.Given as goal

-- the kinds so far, the last one on top
abbrev pub invariant-loop-kind : goal.invariant-loop-kind
invariant-loop-kind l = l.operands ≡ reverse (take l.kind-index l.kinds)
