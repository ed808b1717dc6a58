use Rattle.std.proofs.Common.{◌≡◌, ◌-◌, length}
use Rattle.unit.specs.Model.{parts_of}
use Rattle.flow_theory.specs.Walk.{walk, walk_from}
use Rattle.flow.specs.Tables.{listed}
use Rattle.flow.proofs.walk.Walk.run.Given as goal

-- what is left of the walk decides as the whole does
abbrev pub invariant-loop-at : goal.invariant-loop-at
invariant-loop-at g l =
    let p = parts_of l.self.unit.now in
    let m = g.A.Analysis.meaning l.self.analysis.now p in
    let entries = listed l.self.entries.now in
    walk p m entries ≡ walk_from p m entries (length p.code - l.at) l.at l.arriving
