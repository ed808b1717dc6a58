use Rattle.unit.specs.Model.{parts_of}
use Rattle.analysis_theory.proofs.Safety.{stable_never_wrong}
use Rattle.analysis.proofs.promises.stable_is_safe.Goals as goal

pub returns : goal.returns
returns g c τ stable =
    stable_never_wrong (g.met.A.Analysis.laws c.args.analysis.now (parts_of c.args.unit.now) c.keeps_rules.ensures) τ stable
