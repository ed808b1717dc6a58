-- Sets of the same bits are the same: the bound has one proof.
use Rattle.std.specs.Prelude.{◌≡◌, ℕ, ◌^◌, ◌<◌}
use Rattle.std.proofs.Common.{ap, subst}
use Rattle.std.proofs.Math.Bridge.{le_prop}
use Rattle.slots_theory.specs.declared.set.SlotSet.{SlotSet}

pub same_set : (a b : SlotSet) → a.bits ≡ b.bits → a ≡ b
same_set a b e =
    let Same : ℕ → Type 0 = λ n. (q : n < 2 ^ 32) → a ≡ record { bits = n; fits = q } in
    subst Same e (λ q. ap (λ (f : a.bits < 2 ^ 32). record { bits = a.bits; fits = f }) (le_prop a.fits q)) b.fits
