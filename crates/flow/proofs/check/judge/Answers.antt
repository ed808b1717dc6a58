use Rattle.std.proofs.Common.{Err, ap, ◌∙◌}
use Rattle.std.proofs.lemmas.Result.{err_from_is_err_and}
use Rattle.unit.specs.Model.{parts_of}
use Rattle.flow.specs.Tables.{listed}
use Rattle.flow.proofs.Judging.{verdict_accepts, verdict_flow}
use Rattle.flow.proofs.check.judge.Goals as goal

pub returns-in_err-run : goal.returns-in_err-run
returns-in_err-run g c =
    let p = parts_of c.args.unit.now in
    let m = g.A.Analysis.meaning c.args.analysis.now p in
    let q = err_from_is_err_and c.from_residual-in_err-run.result c.from_residual-in_err-run.ensures.1 in
    verdict_flow p m c.args.certificate.now (listed c.read_entries.new.entries) c.in_err-run.field-0.0 c.from_residual-in_err-run.result
    c.in_ok-read_entries.ensures c.in_err-run.ensures (q.1 ∙ ap Err q.2)

pub returns : goal.returns
returns g c =
    let p = parts_of c.args.unit.now in
    let m = g.A.Analysis.meaning c.args.analysis.now p in
    verdict_accepts p m c.args.certificate.now (listed c.read_entries.new.entries)
    c.in_ok-read_entries.ensures c.in_ok-run.ensures
