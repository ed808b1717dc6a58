use Rattle.std.proofs.Common.{◌*◌, ap, ◌∙◌, arith}
use Rattle.format.specs.Reading.{reading}
use Rattle.unit_abi.specs.Answers.{refused_once}
use Rattle.unit_abi.proofs.berth_unit_read_rounds.Goals as goal

-- by a sum of numbers, so that another range is refused at once, and not only once the reading is computed
pub returns : goal.returns
returns c = c.loop-round.invariant ∙ ap (λ n. n * refused_once (reading c.args.bytes.now)) (omega arith)
