use Rattle.std.proofs.Common.{◌≡◌}
use Rattle.flow.specs.Tables.{filled}
use Rattle.flow.proofs.tables.fill.Given as goal

abbrev pub invariant-loop-place : goal.invariant-loop-place
invariant-loop-place g l = l.table ≡ filled l.place-index l.value l.initial.table
