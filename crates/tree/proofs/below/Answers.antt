use Rattle.std.proofs.Common.{sym, ◌∙◌}
use Rattle.unit.specs.Model.{parts_of}
use Rattle.lattice.proofs.Plain.{yes, no, below_equal, below_unusable, null_below, below_int, below_null, not_below_class}
use Rattle.tree.proofs.Results.{below_answer}
use Rattle.tree.proofs.below.Goals as goal

pub returns-in-Unusable : goal.returns-in-Unusable
returns-in-Unusable c =
    below_answer c.args.unit.now _ _ _ (yes (below_unusable _ _ _ c.in-Unusable.is))

pub returns-in-Int-matches : goal.returns-in-Int-matches
returns-in-Int-matches c =
    below_answer c.args.unit.now _ _ _ (yes (below_equal _ _ _ (c.in-Int-matches.is ∙ sym c.in-Int.is)))

pub returns-in_default : goal.returns-in_default
returns-in_default c =
    below_answer c.args.unit.now _ _ _ (no (λ h. c.in_default.not-Int (below_int (parts_of c.args.unit.now) _ _ c.in-Int.is h)))

pub returns-in-Null-matches : goal.returns-in-Null-matches
returns-in-Null-matches c =
    below_answer c.args.unit.now _ _ _ (yes (below_equal _ _ _ (c.in-Null-matches.is ∙ sym c.in-Null.is)))

pub returns-in_default-matches : goal.returns-in_default-matches
returns-in_default-matches c =
    below_answer c.args.unit.now _ _ _ (no (λ h. c.in_default-matches.not-Null (below_null (parts_of c.args.unit.now) _ _ c.in-Null.is h)))

pub returns-in-Null-a : goal.returns-in-Null-a
returns-in-Null-a c =
    below_answer c.args.unit.now _ _ _ (yes (null_below _ _ _ _ c.in-Null-a.is c.in-Class.is))

pub returns-in-Class-a : goal.returns-in-Class-a
returns-in-Class-a c =
    below_answer c.args.unit.now _ _ _ (simp (c.in-Class-a.is, c.in-Class.is) c.descends.ensures)

pub returns-in-Int-a : goal.returns-in-Int-a
returns-in-Int-a c =
    below_answer c.args.unit.now _ _ _ (no (not_below_class (parts_of c.args.unit.now) _ _ _ c.in-Int-a.is c.in-Class.is))
