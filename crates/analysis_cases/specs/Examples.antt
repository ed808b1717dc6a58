-- The worked examples of the analyses.
use Rattle.std.specs.Prelude.{List}
use Rattle.analysis_cases.specs.Claims.{Claim}
use Rattle.analysis_cases.specs.AnalysisExamples.{analysis_examples}

abbrev pub examples : List Claim
examples = analysis_examples
