-- Which slots are in which sets.
use Rattle.std.specs.Prelude.{◌≡◌, ℕ, ◌^◌, ◌<◌, true, ◌==◌, ◌≢◌, bit_and, bit_or, nat_lt}
use Rattle.std.proofs.Common.{sym, ap, ◌∙◌, ⊎_elim}
use Rattle.std.specs.Int.Bits.{and_zero_l, and_zero_r, or_zero_r}
use Rattle.std.proofs.lemmas.Nat.{pow_pos, pow_below}
use Rattle.std.proofs.lemmas.Bool.{cases_eq, cond_both, eqb-false, ne_eqb, not-true, not_from_false}
use Rattle.slots_theory.specs.declared.set.SlotSet.{SlotSet}
use Rattle.slots_theory.specs.Sets.{bit_of, has_slot, with_slot, first_slot}
use Rattle.slots_theory.proofs.Bits.{and_over_or, powers_apart}
use Rattle.slots_theory.proofs.Inclusion.{Includes, shares_too}

-- a slot is in a set if the set shares its bit
shares : (s : SlotSet) (n : ℕ) → has_slot s n ≡ true → bit_and s.bits (bit_of n) ≢ 0
shares s n h = eqb-false (bit_and s.bits (bit_of n)) 0 (not-true (bit_and s.bits (bit_of n) == 0) h)

is_in : (s : SlotSet) (n : ℕ) → (bit_and s.bits (bit_of n) ≢ 0) → has_slot s n ≡ true
is_in s n h = not_from_false (bit_and s.bits (bit_of n) == 0) (ne_eqb (bit_and s.bits (bit_of n)) 0 h)

-- a larger set has what a smaller one has
pub larger_has : (a b : SlotSet) (n : ℕ) → Includes a.bits b.bits → has_slot b n ≡ true → has_slot a n ≡ true
larger_has a b n p h = is_in a n (shares_too a.bits b.bits (bit_of n) p (shares b n h))

-- a bit below a bound
pub bit_below : (n m : ℕ) → n < m → bit_of n < 2 ^ m
bit_below n m l = cond_both (nat_lt n 32) (2 ^ n) 0 (λ x. x < 2 ^ m) (λ e. pow_below n m l) (λ e. pow_pos m)

-- the bits of two slots share nothing
power_and_bit_apart : (n k : ℕ) → (n ≢ k) → bit_and (2 ^ n) (bit_of k) ≡ 0
power_and_bit_apart n k apart =
    cond_both (nat_lt k 32) (2 ^ k) 0 (λ x. bit_and (2 ^ n) x ≡ 0) (λ e. powers_apart n k apart) (λ e. and_zero_r (2 ^ n))

bits_apart : (n k : ℕ) → (n ≢ k) → bit_and (bit_of n) (bit_of k) ≡ 0
bits_apart n k apart =
    cond_both (nat_lt n 32) (2 ^ n) 0 (λ x. bit_and x (bit_of k) ≡ 0) (λ e. power_and_bit_apart n k apart) (λ e. and_zero_l (bit_of k))

-- only slot 0 is in the set of the start
pub first_alone : (k : ℕ) → has_slot first_slot k ≡ true → k ≡ 0
first_alone k h = ⊎_elim (λ e. e) (λ apart. absurd (shares first_slot k h (power_and_bit_apart 0 k (λ e. apart (sym e))))) (cases_eq k 0)

-- what is in a set with one slot added, but for that slot, was in it
pub was_in : (s : SlotSet) (n k : ℕ) → (k ≢ n) → has_slot (with_slot s n) k ≡ true → has_slot s k ≡ true
was_in s n k apart h =
    is_in s k
    (λ none.
    shares (with_slot s n) k h
    (and_over_or s.bits (bit_of n) (bit_of k)
    ∙ ap (λ x. bit_or (bit_and s.bits (bit_of k)) x) (bits_apart n k (λ e. apart (sym e)))
    ∙ or_zero_r (bit_and s.bits (bit_of k)) ∙ none))
