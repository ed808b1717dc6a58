use Rattle.std.proofs.Common.{refl}
use Rattle.analysis_cases.specs.Examples.{examples}
use Rattle.analysis_cases.proofs.Sound.{every_holds}
use Rattle.analysis_cases.proofs.examples_hold.Goals as goal

pub returns : goal.returns
returns c = every_holds examples refl
