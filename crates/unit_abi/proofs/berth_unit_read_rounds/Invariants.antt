use Rattle.std.proofs.Common.{◌≡◌, ◌*◌}
use Rattle.format.specs.Reading.{reading}
use Rattle.unit_abi.specs.Answers.{refused_once}
use Rattle.unit_abi.proofs.berth_unit_read_rounds.Given as goal

abbrev pub invariant-loop-round : goal.invariant-loop-round
invariant-loop-round l = l.refused ≡ l._round * refused_once (reading l.bytes)
