use Rattle.std.proofs.Common.{◌<◌, length, Err, sym, ap, ◌∙◌, arith}
use Rattle.std.proofs.lemmas.Result.{err_from_is_err_and}
use Rattle.unit.specs.Model.{parts_of}
use Rattle.flow.specs.Tables.{listed}
use Rattle.flow.proofs.Turning.{walk_stops}
use Rattle.flow.proofs.walk.Walk.run.Goals as goal

pub returns-in_err-arriving : goal.returns-in_err-arriving
returns-in_err-arriving g c =
    let p = parts_of c.args.self.now.unit.now in
    let m = g.A.Analysis.meaning c.args.self.now.analysis.now p in
    let entries = listed c.args.self.now.entries.now in
    let q = err_from_is_err_and c.from_residual.result c.from_residual.ensures.1 in
    let inside : c.loop-at.at < length p.code = omega (arith, c.loop-at-test.true, c.code_len-at-end.ensures.value) in
    q.1 ∙ ap Err q.2
    ∙ sym (c.loop-at.invariant ∙ walk_stops p m entries (length p.code) c.loop-at.at c.loop-at.arriving c.in_err-arriving.field-0.0 inside c.in_err-arriving.ensures)
