-- Which number stands for which analysis.
use Rattle.std.specs.Prelude.{◌≡◌, ℕ, cond, Some, None, Option, Result, MatchResult, ◌==◌}
use Rattle.corpus.specs.declared.query.Choice.{Choice}
use Rattle.corpus.specs.declared.query.UnknownChoice.{UnknownChoice}
use Rattle.corpus.specs.declared.query.Choice.TheVariants.{Types, Slots, Rows, Three, RowsTypes}

-- other numbers stand for none
abbrev pub choice_of : ℕ → Option Choice
choice_of n = cond (n == 1) (Some Types) (cond (n == 2) (Some Slots) (cond (n == 3) (Some Rows) (cond (n == 4) (Some Three) (cond (n == 5) (Some RowsTypes) None))))

-- the choice that a number stands for; or it stands for none, and is told
abbrev pub Chosen : ℕ → Result Choice UnknownChoice → Type 0
Chosen n r = MatchResult r (λ choice. Some choice ≡ choice_of n) (λ unknown. (choice_of n ≡ None) × (unknown.0 ≡ n))
