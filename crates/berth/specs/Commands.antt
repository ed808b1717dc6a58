-- Which words give which command.
use Rattle.std.specs.Prelude.{◌≡◌, ℕ, List, [], ◌∷◌, Some, None, codes, Option, ◌≢◌}
use Rattle.berth.specs.declared.command.Command.{Command}
use Rattle.berth.specs.declared.command.Command.TheVariants.{Builtin, Show}

-- the words of a command
abbrev pub words_of : Command → List (List ℕ)
words_of Builtin = []
words_of (Show file) = codes "show" ∷ file.now ∷ []

-- words give a command that has these words, and none where no command has them
abbrev pub Asks : List (List ℕ) → Option Command → Type 0
Asks ws (Some c) = ws ≡ words_of c
Asks ws None = (c : Command) → ws ≢ words_of c
