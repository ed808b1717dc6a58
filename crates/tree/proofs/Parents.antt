-- What a unit's answer to the question for a class's parent tells.
use Rattle.std.proofs.Common.{◌≡◌, ℕ, ◌<◌, ◌≤◌, Bool, true, false, cond, ltb, Some, None, sym, refl}
use Rattle.std.proofs.lemmas.Bool.{ltb-true, ltb-false}
use Rattle.std.proofs.lemmas.Option.{cond_some}
use Rattle.format.specs.Parts.{within}
use Rattle.format.proofs.Bounds.{kept_bounds}
use Rattle.format.proofs.Views.{parents_lower}
use Rattle.lattice.specs.Order.{Lower}
use Rattle.unit.specs.declared.unit.Unit.{Unit}
use Rattle.unit.specs.Model.{parts_of}

pub some_within : (i n x y : ℕ) → Some x ≡ within i n y → (i < n) × (x ≡ y)
some_within i n x y h = let p = cond_some (ltb i n) y x (sym h) in (ltb-true i n p.0, sym p.1)

pub none_within : (i n y : ℕ) → None ≡ within i n y → n ≤ i
none_within i n y h = step (ltb i n) refl h
  where
    step : (b : Bool) → ltb i n ≡ b → None ≡ cond b (Some y) None → n ≤ i
    step true e r = absurd (cc)
    step false e r = ltb-false i n e

-- a unit's parents have lower numbers
pub unit_lower : (u : Unit) → Lower (parts_of u)
unit_lower u = parents_lower u.bytes.now u.layout (kept_bounds u.bytes.now u.layout u.reads)
