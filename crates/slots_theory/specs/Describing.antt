-- Which configurations a set describes: those with the unit's slots, where every slot of the set has a value.
use Rattle.std.specs.Prelude.{◌≡◌, ℕ, true, List, length, Some, None, Option, slice_index_or}
use Rattle.format.specs.Parts.{Parts}
use Rattle.machine.specs.Values.{Value}
use Rattle.machine.specs.Configuration.{Configuration}
use Rattle.slots_theory.specs.declared.set.SlotSet.{SlotSet}
use Rattle.slots_theory.specs.Sets.{has_slot}

-- so many slots, and every slot of the set has a value
pub record SlotsAre (count : ℕ) (s : SlotSet) (xs : List (Option Value)) : Type 0 where
  pub counted : length xs ≡ count
  pub given : (k : ℕ) → has_slot s k ≡ true → (v : Value) × (slice_index_or xs k None ≡ Some v)

abbrev pub slots_describe : Parts → SlotSet → Configuration → Type 0
slots_describe p s c = SlotsAre (length p.slots) s c.slots
