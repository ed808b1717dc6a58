-- Which words give which command.
use Rattle.std.specs.Prelude.{◌≡◌, ℕ, List, [], ◌∷◌, Some, None, codes, Option, ◌≢◌}
use Rattle.views.specs.declared.command.View.{View}
use Rattle.views.specs.declared.command.View.TheVariants.{Listing, Effects as TheEffects}
use Rattle.views.specs.declared.command.Command.{Command}
use Rattle.views.specs.declared.command.Command.TheVariants.{Builtin, Effects, OnFile}

-- the word that asks for a view of a file
abbrev pub word_of : View → List ℕ
word_of Listing = codes "show"
word_of TheEffects = codes "effects"

-- the words of a command
abbrev pub words_of : Command → List (List ℕ)
words_of Builtin = []
words_of Effects = codes "effects" ∷ []
words_of (OnFile view file) = word_of view ∷ file.now ∷ []

-- words give a command that has these words, and none where no command has them
abbrev pub Asks : List (List ℕ) → Option Command → Type 0
Asks ws (Some c) = ws ≡ words_of c
Asks ws None = (c : Command) → ws ≢ words_of c
