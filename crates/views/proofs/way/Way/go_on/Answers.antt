use Rattle.unit.specs.Model.{parts_of}
use Rattle.views.proofs.Onward.{goes_refused, goes_on}
use Rattle.views.proofs.way.Way.go_on.Goals as goal

pub returns-in-Err : goal.returns-in-Err
returns-in-Err c =
    let k = goes_refused (parts_of c.args.unit.now) c.args.self.now c.effect.new.state c.in-Err.fault c.in-Err.ensures in
    record { why = k.0; after = k.1 }

pub returns-in-Some : goal.returns-in-Some
returns-in-Some c =
    let k = goes_on (parts_of c.args.unit.now) c.args.self.now c.come_to.new.self c.effect.new.state c.in-Some.next c.come_to.result
    c.in_default.ensures c.in-Some.ensures.value c.come_to.ensures.why c.come_to.ensures.after in
    record { why = k.0; after = k.1 }
