use Rattle.std.proofs.Common.{◌≡◌}
use Rattle.unit.specs.Model.{parts_of}
use Rattle.flow.proofs.Gathering.{Gathered}
use Rattle.flow.proofs.entries.read_entries.Given as goal

abbrev pub invariant-loop-entry : goal.invariant-loop-entry
invariant-loop-entry g l =
    let fields = l.entry-iterator in
    Gathered (parts_of l.unit) (g.A.Analysis.meaning l.analysis (parts_of l.unit)) l.bytes l.entries fields.place fields.least
    × ((fields.analysis.now ≡ l.analysis) × ((fields.unit.now ≡ l.unit) × (fields.bytes.now ≡ l.bytes)))
