-- What an answer tells of the tests on the way to it.
use Rattle.std.proofs.Common.{◌≡◌, ℕ, Bool, true, false, Some, None, Ok, Option, Result, refl}
use Rattle.format.specs.declared.refusal.ReadError.{ReadError}
use Rattle.format.specs.Reading.{guard, unless}

pub guard_ok : {A : Type 0} (b : Bool) (e : ReadError) (r : Result A ReadError) (x : A) → guard b e r ≡ Ok x → (b ≡ true) × (r ≡ Ok x)
guard_ok true e r x h = (refl, h)
guard_ok false e r x h = absurd (cc)

pub unless_ok : {A : Type 0} (o : Option ℕ) (e : ℕ → ReadError) (r : Result A ReadError) (x : A) → unless o e r ≡ Ok x → (o ≡ None) × (r ≡ Ok x)
unless_ok None e r x h = (refl, h)
unless_ok (Some i) e r x h = absurd (cc)

pub guard_true : {A : Type 0} (b : Bool) (e : ReadError) (r : Result A ReadError) → b ≡ true → guard b e r ≡ r
guard_true b e r h = rw h

pub unless_none : {A : Type 0} (o : Option ℕ) (e : ℕ → ReadError) (r : Result A ReadError) → o ≡ None → unless o e r ≡ r
unless_none o e r h = rw h
