-- The writing of a set: its number in four bytes, the high byte first. A number with a bit from the slot count on is no set
-- of the unit.
use Rattle.std.specs.Prelude.{ℕ, ◌+◌, ◌*◌, ◌/◌, ◌%◌, ◌^◌, Bool, cond, ◌&&◌, List, [], ◌∷◌, length, Ok, Err, Result, nat_le, nat_lt}
use Rattle.format.specs.Bytes.{byte_at}
use Rattle.format.specs.Parts.{Parts}
use Rattle.analysis_theory.specs.declared.fault.Unreadable.{Unreadable}
use Rattle.analysis_theory.specs.Meaning.{Got}
use Rattle.slots_theory.specs.declared.set.SlotSet.{SlotSet}
use Rattle.slots_theory.specs.Sets.{of_bits}

-- whether a number has no bit from the slot count on
abbrev pub in_slots : Parts → ℕ → Bool
in_slots p n = nat_lt n (2 ^ length p.slots)

abbrev pub set_bytes : SlotSet → List ℕ
set_bytes s = s.bits / 16777216 % 256 ∷ s.bits / 65536 % 256 ∷ s.bits / 256 % 256 ∷ s.bits % 256 ∷ []

-- the number of four bytes
abbrev pub bits_in : List ℕ → ℕ
bits_in bs = byte_at bs 0 * 16777216 + byte_at bs 1 * 65536 + byte_at bs 2 * 256 + byte_at bs 3

abbrev pub set_parsed : Parts → List ℕ → Result (Got SlotSet) Unreadable
set_parsed p bs =
    cond (nat_le 4 (length bs) && in_slots p (bits_in bs)) (Ok (record { state = of_bits (bits_in bs); length = 4 })) (Err (record { layer = 2 }))
