-- Inclusion of numbers as sets of bits: a includes b if their intersection is b.
use Rattle.std.specs.Prelude.{◌≡◌, ℕ, ◌<◌, ◌⊎◌, ◌≢◌, bit_and, bit_or, count_ones}
use Rattle.std.proofs.Common.{sym, ap, subst, ◌∙◌, inl, inr, ⊎_elim}
use Rattle.std.specs.Int.Bits.{and_self, and_zero_r}
use Rattle.std.proofs.lemmas.Nat.{and_comm}
use Rattle.slots_theory.proofs.Bits.{and_regrouped, and_of_ors, same_or_fewer_ones}

abbrev pub Includes : ℕ → ℕ → Type 0
Includes a b = bit_and a b ≡ b

pub includes_through : (a b c : ℕ) → Includes a b → Includes b c → Includes a c
includes_through a b c p q = ap (bit_and a) (sym q) ∙ sym (and_regrouped a b c) ∙ ap (λ x. bit_and x c) p ∙ q

pub both_include : (a b : ℕ) → Includes a b → Includes b a → a ≡ b
both_include a b p q = sym q ∙ and_comm b a ∙ p

pub left_includes : (a b : ℕ) → Includes a (bit_and a b)
left_includes a b = sym (and_regrouped a a b) ∙ ap (λ x. bit_and x b) (and_self a)

pub right_includes : (a b : ℕ) → Includes b (bit_and a b)
right_includes a b = ap (bit_and b) (and_comm a b) ∙ left_includes b a ∙ and_comm b a

-- what both include, their intersection includes
pub intersection_includes : (a b d : ℕ) → Includes a d → Includes b d → Includes (bit_and a b) d
intersection_includes a b d p q = and_regrouped a b d ∙ ap (bit_and a) q ∙ p

pub same_or_more_ones : (a b : ℕ) → Includes a b → (a ≡ b) ⊎ (count_ones b < count_ones a)
same_or_more_ones a b p =
    ⊎_elim (λ e. inl (sym e ∙ p)) (λ less. inr (subst (λ x. count_ones x < count_ones a) p less)) (same_or_fewer_ones a b)

-- the same bits added to both
pub includes_with : (a b x : ℕ) → Includes a b → Includes (bit_or a x) (bit_or b x)
includes_with a b x p = and_of_ors a b x ∙ ap (λ y. bit_or y x) p

-- where b shares a bit with x, so does a
pub shares_too : (a b x : ℕ) → Includes a b → (bit_and b x ≢ 0) → bit_and a x ≢ 0
shares_too a b x p shares none =
    shares
    (ap (λ y. bit_and y x) (sym p ∙ and_comm a b) ∙ and_regrouped b a x ∙ ap (bit_and b) none ∙ and_zero_r b)
