use Rattle.std.proofs.Common.{Ok, subst}
use Rattle.unit.specs.Model.{parts_of}
use Rattle.flow.specs.Answers.{HeldAt}
use Rattle.flow.specs.Tables.{listed}
use Rattle.flow.proofs.Turning.{turn_is}
use Rattle.flow.proofs.walk.Walk.turn.Goals as goal

pub returns : goal.returns
returns g c =
    let p = parts_of c.args.self.now.unit.now in
    let m = g.A.Analysis.meaning c.args.self.now.analysis.now p in
    let entries = listed c.args.self.now.entries.now in
    turn_is p m entries c.args.at c.args.arriving c.in-Some.state c.effect_at.new.state c.flow_on.result
    (subst (λ o. HeldAt m c.args.at (entries c.args.at) c.args.arriving (Ok o)) c.in-Some.is c.in_ok-state.ensures)
    c.in_ok-effect_at.ensures c.flow_on.ensures
