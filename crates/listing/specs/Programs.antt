-- The status with which a program ends, and why it has no words or no file.
use Rattle.std.specs.Prelude.{◌≡◌, ℕ, List, Ok, Err, Result}
use Rattle.listing.specs.declared.failure.Failure.{Failure}
use Rattle.listing.specs.declared.failure.Failure.TheVariants.{Arguments, Usage, Input, Refused, Output}

-- 0 where all went well, and else 1
abbrev pub status_of : Result (Unit {0}) Failure → ℕ
status_of (Ok x) = 0
status_of (Err failure) = 1

-- the words of the command line cannot be had
abbrev pub NoArguments : Failure → Type 0
NoArguments (Arguments e) = Unit {0}
NoArguments Usage = ⊥
NoArguments (Input f e) = ⊥
NoArguments (Refused e) = ⊥
NoArguments (Output e) = ⊥

-- the file of this name cannot be read
abbrev pub NoInput : List ℕ → Failure → Type 0
NoInput name (Arguments e) = ⊥
NoInput name Usage = ⊥
NoInput name (Input f e) = f.now ≡ name
NoInput name (Refused e) = ⊥
NoInput name (Output e) = ⊥
