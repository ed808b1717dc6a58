use Rattle.std.proofs.Common.{rules, sym}
use Rattle.unit.specs.Model.{parts_of}
use Rattle.flow_theory.proofs.Verdicts.{yes_is_safe}
use Rattle.flow.proofs.check.check.Goals as goal

pub returns-clause-safe : goal.returns-clause-safe
returns-clause-safe g c =
    let p = parts_of c.args.unit.now in
    yes_is_safe (g.met.A.Analysis.laws c.args.analysis.now p c.keeps_rules.ensures) c.keeps_rules.ensures c.args.certificate.now
    (search rules) c.judge-verdict.result (sym c.judge-verdict.ensures)
