use Rattle.std.proofs.Common.{Ok, Err, ap, ◌∙◌}
use Rattle.std.proofs.lemmas.Result.{err_from_is_err_and}
use Rattle.unit.specs.Model.{parts_of}
use Rattle.flow.specs.Tables.{listed}
use Rattle.flow.proofs.Gathering.{of_same, gathered_next, gathered_wrong, gathered_all, read_wrong, read_whole}
use Rattle.flow.proofs.entries.read_entries.Goals as goal

pub returns-in_err-entry : goal.returns-in_err-entry
returns-in_err-entry g c =
    let p = parts_of c.args.unit.now in
    let m = g.A.Analysis.meaning c.args.analysis.now p in
    let all = c.loop-entry.invariant in
    let fields = c.loop-entry.entry-iterator in
    let f = c.in_err-entry.field-0.0 in
    let q = err_from_is_err_and c.from_residual-in_err-entry.result c.from_residual-in_err-entry.ensures.1 in
    let read =
    of_same g.A.Analysis.meaning fields.analysis.now c.args.analysis.now fields.unit.now c.args.unit.now fields.bytes.now c.args.bytes.now fields.place fields.least c.next.new.self.place c.next.new.self.least c.in-Some.entry (Err f)
    all.1.0 all.1.1.0 all.1.1.1 c.in_err-entry.was c.in-Some.ensures.steps.0 in
    read_wrong p m c.args.bytes.now (listed c.loop-entry.entries) f c.from_residual-in_err-entry.result c.in_ok-fields.ensures.headed
    (gathered_wrong p m c.args.bytes.now c.loop-entry.entries fields.place fields.least f all.0 read.0 read.1)
    (q.1 ∙ ap Err q.2)

pub loop-entry-preserved : goal.loop-entry-preserved
loop-entry-preserved g c =
    let p = parts_of c.args.unit.now in
    let m = g.A.Analysis.meaning c.args.analysis.now p in
    let all = c.loop-entry.invariant in
    let fields = c.loop-entry.entry-iterator in
    let e = c.in_ok-entry.field-0 in
    let steps = c.in-Some.ensures.steps in
    let read =
    of_same g.A.Analysis.meaning fields.analysis.now c.args.analysis.now fields.unit.now c.args.unit.now fields.bytes.now c.args.bytes.now fields.place fields.least c.next.new.self.place c.next.new.self.least c.in-Some.entry (Ok e)
    all.1.0 all.1.1.0 all.1.1.1 c.in_ok-entry.was steps.0 in (
      gathered_next p m c.args.bytes.now c.loop-entry.entries c.enter.new.self fields.place fields.least c.next.new.self.place c.next.new.self.least e all.0 read c.enter.ensures,
      (steps.1.0 ∙ all.1.0, (steps.1.1.0 ∙ all.1.1.0, steps.1.1.1 ∙ all.1.1.1)),
    )

pub returns : goal.returns
returns g c =
    let p = parts_of c.args.unit.now in
    let m = g.A.Analysis.meaning c.args.analysis.now p in
    let all = c.loop-entry.invariant in
    let fields = c.loop-entry.entry-iterator in
    let end = rw all.1.1.1 at c.in-None.ensures.steps.0 in
    read_whole p m c.args.bytes.now (listed c.loop-entry.entries) all.0.entries c.in_ok-fields.ensures.headed
    (gathered_all p m c.args.bytes.now c.loop-entry.entries fields.place fields.least all.0 end) all.0.there
