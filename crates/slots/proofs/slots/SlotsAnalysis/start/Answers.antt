use Rattle.std.proofs.Common.{refl}
use Rattle.slots_theory.proofs.Same.{same_set}
use Rattle.slots.proofs.slots.SlotsAnalysis.start.Goals as goal

pub returns : goal.returns
returns c = same_set _ _ refl
