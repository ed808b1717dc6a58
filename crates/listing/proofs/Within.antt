-- What an accessor of a unit that answers `within` tells.
use Rattle.std.proofs.Common.{◌≡◌, ℕ, ◌<◌, ◌≤◌, Bool, true, false, cond, ltb, Some, None, refl}
use Rattle.std.proofs.lemmas.Bool.{true≢false, ltb-true, ltb-false}
use Rattle.format.specs.Parts.{within}

-- what is there is inside, and is what the table has there
pub some_within : {A : Type 0} (i n : ℕ) (x y : A) → Some x ≡ within i n y → (i < n) × (x ≡ y)
some_within i n x y h = step (ltb i n) refl h
  where
    step : (b : Bool) → ltb i n ≡ b → Some x ≡ cond b (Some y) None → (i < n) × (x ≡ y)
    step true e r = (ltb-true i n e, cc)
    step false e r = absurd (true≢false (cc))

-- where nothing is there, it is past the end
pub none_within : {A : Type 0} (i n : ℕ) (y : A) → None ≡ within i n y → n ≤ i
none_within i n y h = step (ltb i n) refl h
  where
    step : (b : Bool) → ltb i n ≡ b → None ≡ cond b (Some y) None → n ≤ i
    step true e r = absurd (true≢false (cc))
    step false e r = ltb-false i n e
