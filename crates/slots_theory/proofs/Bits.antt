-- The bits of intersections and unions of numbers.
use Rattle.std.specs.Prelude.{◌≡◌, ℕ, ◌/◌, ◌%◌, ◌^◌, ◌<◌, min, max, ◌⊎◌, ◌≢◌, bit_and, bit_or, count_ones, refl}
use Rattle.std.proofs.Common.{ap, ◌∙◌, inl, inr, ⊎_elim, arith}
use Rattle.std.proofs.Math.Arith.{bin_ind}
use Rattle.std.specs.Int.Bits.{and_step, or_step}
use Rattle.std.specs.Int.Count.{ones_step}
use Rattle.std.proofs.lemmas.Nat.{and_assoc, and_comm, and_or_self, pow_apart}
use Rattle.std.proofs.lemmas.Bool.{cases_lt}

lowest_of_and : (a b : ℕ) → bit_and a b % 2 ≡ min (a % 2) (b % 2)
lowest_of_and a b = omega (arith, and_step a b)

rest_of_and : (a b : ℕ) → bit_and a b / 2 ≡ bit_and (a / 2) (b / 2)
rest_of_and a b = omega (arith, and_step a b)

lowest_of_or : (a b : ℕ) → bit_or a b % 2 ≡ max (a % 2) (b % 2)
lowest_of_or a b = omega (arith, or_step a b)

rest_of_or : (a b : ℕ) → bit_or a b / 2 ≡ bit_or (a / 2) (b / 2)
rest_of_or a b = omega (arith, or_step a b)

pub and_regrouped : (a b c : ℕ) → bit_and (bit_and a b) c ≡ bit_and a (bit_and b c)
and_regrouped a b c = and_assoc c a b

-- the same bits added to two numbers are added to their intersection
pub and_of_ors : (a b c : ℕ) → bit_and (bit_or a c) (bit_or b c) ≡ bit_or (bit_and a b) c
and_of_ors =
    bin_ind (λ (n : ℕ). (b c : ℕ) → bit_and (bit_or n c) (bit_or b c) ≡ bit_or (bit_and n b) c) (λ b c. and_comm c (bit_or b c) ∙ and_or_self c b)
    (λ n before b c.
    let left = rw (rest_of_or n c, lowest_of_or n c, rest_of_or b c, lowest_of_or b c) at (and_step (bit_or n c) (bit_or b c)) in
    let right = rw (rest_of_and n b, lowest_of_and n b) at (or_step (bit_and n b) c) in
    let same = before (b / 2) (c / 2) in
    omega (arith, left, right, same))

-- an intersection with a union is the union of the intersections
pub and_over_or : (a b c : ℕ) → bit_and (bit_or a b) c ≡ bit_or (bit_and a c) (bit_and b c)
and_over_or =
    bin_ind (λ (n : ℕ). (b c : ℕ) → bit_and (bit_or n b) c ≡ bit_or (bit_and n c) (bit_and b c)) (λ b c. refl)
    (λ n before b c.
    let left = rw (rest_of_or n b, lowest_of_or n b) at (and_step (bit_or n b) c) in
    let right = rw (rest_of_and n c, lowest_of_and n c, rest_of_and b c, lowest_of_and b c) at (or_step (bit_and n c) (bit_and b c)) in
    let same = before (b / 2) (c / 2) in
    omega (arith, left, right, same))

-- an intersection is the whole, or has fewer ones
pub same_or_fewer_ones : (a b : ℕ) → (bit_and a b ≡ a) ⊎ (count_ones (bit_and a b) < count_ones a)
same_or_fewer_ones =
    bin_ind (λ (n : ℕ). (b : ℕ) → (bit_and n b ≡ n) ⊎ (count_ones (bit_and n b) < count_ones n)) (λ b. inl refl)
    (λ n before b.
    let all = ones_step n in
    let some = rw (rest_of_and n b, lowest_of_and n b) at (ones_step (bit_and n b)) in
    let parts = and_step n b in
    ⊎_elim
    (λ e.
    let same = ap count_ones e in
    ⊎_elim (λ less. inr (omega (arith, all, some, same, less))) (λ no_less. inl (omega (arith, parts, e, no_less)))
    (cases_lt (min (n % 2) (b % 2)) (n % 2)))
    (λ less. inr (omega (arith, all, some, less)))
    (before (b / 2)))

-- two bits at different places share nothing
pub powers_apart : (n k : ℕ) → (n ≢ k) → bit_and (2 ^ n) (2 ^ k) ≡ 0
powers_apart = pow_apart
