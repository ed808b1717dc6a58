-- The words of a command line, by how many there are.
use Rattle.std.proofs.Common.{◌≡◌, ℕ, ◌<◌, List, map, length, ap, arith}
use lib.ListN.{length-map}
use Rattle.berth.specs.declared.command.Command.{Command}
use Rattle.berth.specs.declared.command.Command.TheVariants.{Builtin, Show}
use Rattle.berth.specs.Commands.{words_of}

-- no command has one word, or more than two
pub no_command : {A : Type 0} (f : A → List ℕ) (ws : List A) → 0 < length ws → (length ws ≡ 2 → ⊥) → (c : Command) → map f ws ≡ words_of c → ⊥
no_command f ws some two Builtin e = let n : length (map f ws) ≡ 0 = ap length e in absurd (omega (arith, n, length-map ws f))
no_command f ws some two (Show file) e = let n : length (map f ws) ≡ 2 = ap length e in two (omega (arith, n, length-map ws f))
