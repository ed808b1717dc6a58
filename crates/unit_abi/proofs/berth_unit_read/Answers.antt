use Rattle.std.proofs.Common.{◌≡◌, ap}
use Rattle.format.specs.Reading.{reading}
use Rattle.unit_abi.specs.Answers.{answer_of}
use Rattle.unit_abi.proofs.berth_unit_read.Goals as goal

-- by an equation and `cc`, so that another number is refused at once, and not only once the reading is computed
pub returns-in-Ok : goal.returns-in-Ok
returns-in-Ok c =
    let e : answer_of (reading c.args.bytes.now) ≡ 0 = ap answer_of c.in-Ok.ensures.outcome.0 in cc
