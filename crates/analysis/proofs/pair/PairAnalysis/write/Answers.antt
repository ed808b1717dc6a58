use Rattle.analysis_theory.proofs.Writings.{both_buffer}
use Rattle.analysis.proofs.pair.PairAnalysis.write.Goals as goal

pub returns-clause-buffer : goal.returns-clause-buffer
returns-clause-buffer g c =
    both_buffer _ _ _ _ c.in_ok-size.ensures c.if-size-out.false _ _ c.in_ok-left.ensures.length c.in_ok-left.ensures.buffer _ c.in_ok-right.ensures.buffer
