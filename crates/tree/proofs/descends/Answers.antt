use Rattle.std.proofs.Common.{true, false, ap, arith}
use Rattle.kinds.specs.declared.kind.Kind.TheVariants.{Class}
use Rattle.unit.specs.Model.{parts_of}
use Rattle.tree.proofs.Parents.{some_within, none_within}
use Rattle.lattice.proofs.Plain.{yes, no, below_equal}
use Rattle.lattice.proofs.Climbs.{below_other, climb_decides, root_none, unknown_none}
use Rattle.tree.proofs.descends.Goals as goal

pub returns-then-at-eq0 : goal.returns-then-at-eq0
returns-then-at-eq0 c =
    c.loop-at.invariant false
    (no (λ h. root_none (parts_of c.args.unit.now) _ _ c.if-at-eq0.true (below_other _ _ _ c.loop-at-test.true h)))

pub returns-in_default : goal.returns-in_default
returns-in_default c =
    let past = none_within _ _ _ c.in_default.ensures.value in
    c.loop-at.invariant false
    (no (λ h. unknown_none (parts_of c.args.unit.now) _ _ past (below_other _ _ _ c.loop-at-test.true h)))

pub loop-at-preserved : goal.loop-at-preserved
loop-at-preserved c =
    let up = some_within _ _ _ _ c.in-Some.ensures.value in
    λ r h.
    c.loop-at.invariant r
    (climb_decides (parts_of c.args.unit.now) _ _ _ c.loop-at-test.true (omega (arith, c.if-at-eq0.false)) up.0 up.1 r h)

pub returns : goal.returns
returns c = c.loop-at.invariant true (yes (below_equal _ _ _ (ap Class c.loop-at-test.false)))
