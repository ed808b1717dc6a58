use Rattle.std.proofs.Common.{sym, refl, ap, arith}
use Rattle.kinds.specs.declared.kind.Kind.TheVariants.{Unusable, Class}
use Rattle.unit.specs.Model.{parts_of}
use Rattle.tree.proofs.Parents.{some_within, none_within}
use Rattle.lattice.proofs.Plain.{below_equal, least_swap, least_above}
use Rattle.lattice.proofs.Joins.{climb_least, lone_least}
use Rattle.tree.proofs.join_classes.Goals as goal

pub returns-in_default : goal.returns-in_default
returns-in_default c =
    c.loop-left.invariant Unusable
    (lone_least (parts_of c.args.unit.now) c.in_default.ensures.lower _ _ c.if-left-right.true
    (none_within _ _ _ c.in_default.ensures.value))

pub loop-left-preserved-then-left-right : goal.loop-left-preserved-then-left-right
loop-left-preserved-then-left-right c =
    let up = some_within _ _ _ _ c.in-Some.ensures.value in
    λ k h.
    c.loop-left.invariant k
    (climb_least (parts_of c.args.unit.now) c.in-Some.ensures.lower _ _ _ k c.if-left-right.true up.0 up.1 h)

pub returns-in_default-parent : goal.returns-in_default-parent
returns-in_default-parent c =
    c.loop-left.invariant Unusable
    (least_swap _ _ _ _ (lone_least (parts_of c.args.unit.now) c.in_default-parent.ensures.lower _ _ (omega (arith, c.loop-left-test.true))
    (none_within _ _ _ c.in_default-parent.ensures.value)))

pub loop-left-preserved : goal.loop-left-preserved
loop-left-preserved c =
    let up = some_within _ _ _ _ c.in-Some-parent.ensures.value in
    λ k h.
    c.loop-left.invariant k
    (least_swap _ _ _ _
    (climb_least (parts_of c.args.unit.now) c.in-Some-parent.ensures.lower c.loop-left.right c.loop-left.left _ k
    (omega (arith, c.loop-left-test.true)) up.0 up.1 (least_swap _ _ _ _ h)))

pub returns : goal.returns
returns c =
    c.loop-left.invariant (Class c.loop-left.left)
    (least_swap _ _ _ _ (least_above _ _ _ _ (below_equal _ _ _ (ap Class (sym c.loop-left-test.false))) refl))
