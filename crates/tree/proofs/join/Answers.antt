use Rattle.std.proofs.Common.{sym, ◌∙◌, arith}
use Rattle.lattice.proofs.Plain.{below_equal, null_below, least_swap, least_above, unusable_least, int_least, mixed_least, null_least}
use Rattle.tree.proofs.Results.{join_answer}
use Rattle.tree.proofs.join.Goals as goal

pub returns-in-Unusable : goal.returns-in-Unusable
returns-in-Unusable c =
    join_answer c.args.unit.now _ _ _ (least_swap _ _ _ _ (unusable_least _ _ _ c.in-Unusable.is))

pub returns-in-Int-b : goal.returns-in-Int-b
returns-in-Int-b c =
    join_answer c.args.unit.now _ _ _ (least_above _ _ _ _ (below_equal _ _ _ (c.in-Int.is ∙ sym c.in-Int-b.is)) c.in-Int-b.is)

pub returns-in-Null-b : goal.returns-in-Null-b
returns-in-Null-b c =
    join_answer c.args.unit.now _ _ _ (least_swap _ _ _ _ (int_least _ _ _ (λ e. let h = c.in-Null-b.is in grind arith) c.in-Int.is))

pub returns-in-Null-b-2 : goal.returns-in-Null-b-2
returns-in-Null-b-2 c =
    join_answer c.args.unit.now _ _ _ (null_least _ _ _ c.in-Null.is c.in-Null-b-2.is)

pub returns-in-Int-b-2 : goal.returns-in-Int-b-2
returns-in-Int-b-2 c =
    join_answer c.args.unit.now _ _ _ (mixed_least _ _ _ (λ e. cc) c.in-Int-b-2.is)

pub returns-in-Null-b-3 : goal.returns-in-Null-b-3
returns-in-Null-b-3 c =
    join_answer c.args.unit.now _ _ _ (least_swap _ _ _ _ (least_above _ _ _ _ (null_below _ _ _ _ c.in-Null-b-3.is c.in-Class.is) c.in-Class.is))

pub returns-in-Int-b-3 : goal.returns-in-Int-b-3
returns-in-Int-b-3 c =
    join_answer c.args.unit.now _ _ _ (mixed_least _ _ _ (λ e. cc) c.in-Int-b-3.is)

pub returns-in-Class-b : goal.returns-in-Class-b
returns-in-Class-b c =
    join_answer c.args.unit.now _ _ _ (simp (c.in-Class.is, c.in-Class-b.is) c.join_classes.ensures)
