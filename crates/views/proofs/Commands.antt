-- The words of a command line, by how many there are.
use Rattle.std.proofs.Common.{◌≡◌, ℕ, ◌<◌, List, map, length, ap, arith}
use lib.ListN.{length-map}
use Rattle.views.specs.declared.command.Command.{Command}
use Rattle.views.specs.declared.command.Command.TheVariants.{Builtin, Effects, OnFile}
use Rattle.views.specs.Commands.{words_of}

-- no command has more than two words
pub no_command : {A : Type 0} (f : A → List ℕ) (ws : List A) → 2 < length ws → (c : Command) → map f ws ≡ words_of c → ⊥
no_command f ws many Builtin e = let n : length (map f ws) ≡ 0 = ap length e in absurd (omega (arith, n, length-map ws f))
no_command f ws many Effects e = let n : length (map f ws) ≡ 1 = ap length e in absurd (omega (arith, n, length-map ws f))
no_command f ws many (OnFile view file) e = let n : length (map f ws) ≡ 2 = ap length e in absurd (omega (arith, n, length-map ws f))
