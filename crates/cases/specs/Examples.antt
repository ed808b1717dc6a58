-- The worked examples: one list, to which each piece adds its own.
use Rattle.std.specs.Prelude.{List, ◌++◌}
use Rattle.cases.specs.Claims.{Claim}
use Rattle.cases.specs.ReadingExamples.{reading_examples}
use Rattle.cases.specs.MachineExamples.{machine_examples}

abbrev pub examples : List Claim
examples = reading_examples ++ machine_examples
