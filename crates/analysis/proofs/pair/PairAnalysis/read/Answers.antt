use Rattle.std.proofs.Common.{ℕ, List, drop, Ok, subst}
use Rattle.std.proofs.lemmas.List.{take_rest}
use Rattle.unit.specs.Model.{parts_of}
use Rattle.analysis_theory.specs.Methods.{ReadAs}
use Rattle.analysis_theory.proofs.PairParts.{both_read}
use Rattle.analysis.proofs.pair.PairAnalysis.read.Goals as goal

pub returns-clause-value : goal.returns-clause-value
returns-clause-value g c =
    let bs = c.args.bytes.now in
    let n = c.in_ok-left.front in
    let m = c.in_ok-right.back in
    let r = (g.R.Analysis.meaning c.args.self.now.right (parts_of c.args.unit.now)).parsed in
    both_read _ (λ i. r (drop i bs)) _ n _ m c.in_ok-left.ensures.value
    (subst (λ (z : List ℕ). ReadAs (r z) (Ok (c.in_ok-right.right, m))) (take_rest bs n) c.in_ok-right.ensures.value)
