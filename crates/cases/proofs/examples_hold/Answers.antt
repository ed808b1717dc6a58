use Rattle.std.proofs.Common.{refl}
use Rattle.cases.specs.Examples.{examples}
use Rattle.cases.proofs.Sound.{every_holds}
use Rattle.cases.proofs.examples_hold.Goals as goal

pub returns : goal.returns
returns c = every_holds examples refl
