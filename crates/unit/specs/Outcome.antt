-- What a reading answers and leaves in the caller's place, and what that means.
use Rattle.std.specs.Prelude.{◌≡◌, ℕ, List, Ok, Err, Result}
use Rattle.std.specs.Borrow.{Bor}
use Rattle.format.specs.declared.refusal.ReadError.{ReadError}
use Rattle.format.specs.Parts.{Parts}
use Rattle.format.specs.Reading.{reading}
use Rattle.format.specs.Meaning.{IsUnit, NoUnit, FirstWrong}
use Rattle.unit.specs.declared.unit.Unit.{Unit as Place}

-- the place holds exactly these bytes, with the layout that they read as; or they are refused, and it is as it was
abbrev pub Outcome : Bor (List ℕ) → Place → Place → Result (Unit {0}) ReadError → Type 0
Outcome bytes before after (Ok x) = (reading bytes.now ≡ Ok after.layout) × (after.bytes ≡ bytes)
Outcome bytes before after (Err e) = (reading bytes.now ≡ Err e) × (after ≡ before)

-- the bytes are the unit with these parts and no others; or they are no unit, and this is the first thing that is wrong
abbrev pub Means : List ℕ → Parts → Result (Unit {0}) ReadError → Type 0
Means bs p (Ok x) = IsUnit bs p
Means bs p (Err e) = FirstWrong bs e × NoUnit bs
