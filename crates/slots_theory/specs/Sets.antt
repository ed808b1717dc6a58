-- Sets of slots, as numbers of 32 bits: bit n is slot n's.
use Rattle.std.specs.Prelude.{ℕ, ◌%◌, ◌^◌, ◌<◌, Bool, cond, not, ◌==◌, bit_and, bit_or, nat_lt}
use Rattle.std.proofs.Common.{arith, lit<}
use Rattle.std.specs.Int.Bits.{and_lt}
use Rattle.std.proofs.lemmas.Nat.{pow_below, or_lt}
use Rattle.std.proofs.lemmas.Bool.{cond_both, ltb-true}
use Rattle.slots_theory.specs.declared.set.SlotSet.{SlotSet}

-- the bit of a slot, and no bit from slot 32 on
abbrev pub bit_of : ℕ → ℕ
bit_of n = cond (nat_lt n 32) (2 ^ n) 0

pub bit_fits : (n : ℕ) → bit_of n < 2 ^ 32
bit_fits n = cond_both (nat_lt n 32) (2 ^ n) 0 (λ x. x < 2 ^ 32) (λ e. pow_below n 32 (ltb-true n 32 e)) (λ e. lit< tt)

abbrev pub has_slot : SlotSet → ℕ → Bool
has_slot s n = not (bit_and s.bits (bit_of n) == 0)

-- whether every slot of b is in a
abbrev pub has_all : SlotSet → SlotSet → Bool
has_all a b = bit_and a.bits b.bits == b.bits

-- slot 0 alone
abbrev pub first_slot : SlotSet
first_slot = record { bits = 1; fits = lit< tt }

abbrev pub with_slot : SlotSet → ℕ → SlotSet
with_slot s n = record { bits = bit_or s.bits (bit_of n); fits = or_lt 32 s.bits (bit_of n) s.fits (bit_fits n) }

abbrev pub intersection : SlotSet → SlotSet → SlotSet
intersection a b = record { bits = bit_and a.bits b.bits; fits = and_lt 32 a.bits b.bits a.fits b.fits }

-- the set of the lowest 32 bits of a number
abbrev pub of_bits : ℕ → SlotSet
of_bits n = record { bits = n % 2 ^ 32; fits = omega arith }
