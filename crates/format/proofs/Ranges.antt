-- What a test over a range of numbers says of each number in it.
use Rattle.std.proofs.Common.{◌≡◌, ℕ, zero, suc, ◌+◌, ◌<◌, ◌≤◌, Bool, true, false, not, cond, Option, Some, None, MatchOption, MatchBool, length, slice_index_or, subst, sym, refl, ap, ◌∙◌, ⊎_elim, arith}
use Rattle.std.proofs.lemmas.Bool.{and_from, and_left, and_right, and_parts, cases_eq, cond-true, cond-false}
use Rattle.std.specs.List.{AllWithin, HoldsAt, range_with_len}
use Rattle.std.proofs.lemmas.List.FromFn.{length-range_with_len, get_or-range_with_len}
use Rattle.format.specs.Bytes.{up_to, first_failing, Follows}

pub up_to_all : (f : ℕ → Bool) (n : ℕ) → ((k : ℕ) → k < n → f k ≡ true) → up_to n f ≡ true
up_to_all f zero h = refl
up_to_all f (suc n) h = and_from (f n) (up_to n f) (h n (omega arith)) (up_to_all f n (λ k l. h k (omega arith)))

pub up_to_fails : (f : ℕ → Bool) (n k : ℕ) → k < n → f k ≡ false → up_to n f ≡ false
up_to_fails f zero k l h = absurd (omega arith)
up_to_fails f (suc n) k l h =
    ⊎_elim
    (λ (e : k ≡ n). and_left (f n) (up_to n f) (sym (ap f e) ∙ h))
    (λ (ne : k ≡ n → ⊥). and_right (f n) (up_to n f) (up_to_fails f n k (omega (arith, ne)) h))
    (cases_eq k n)

pub up_to_at : (f : ℕ → Bool) (n k : ℕ) → up_to n f ≡ true → k < n → f k ≡ true
up_to_at f zero k h l = absurd (omega arith)
up_to_at f (suc n) k h l =
    let both : (f n ≡ true) × (up_to n f ≡ true) = and_parts (f n) (up_to n f) h in
    ⊎_elim
    (λ (e : k ≡ n). ap f e ∙ both.0)
    (λ (ne : k ≡ n → ⊥). up_to_at f n k both.1 (omega (arith, ne)))
    (cases_eq k n)

pub up_to_same : (f g : ℕ → Bool) (n : ℕ) → ((k : ℕ) → k < n → f k ≡ g k) → up_to n f ≡ up_to n g
up_to_same f g zero h = refl
up_to_same f g (suc n) h =
    let e : f n ≡ g n = h n (omega arith) in
    let r : up_to n f ≡ up_to n g = up_to_same f g n (λ k l. h k (omega arith)) in
    rw (e, r) refl

pub first_none : (f : ℕ → Bool) (i n : ℕ) → ((k : ℕ) → i ≤ k → k < i + n → f k ≡ true) → first_failing f i n ≡ None
first_none f i zero h = refl
first_none f i (suc n) h =
    cond-true (f i) _ _ (h i (omega arith) (omega arith))
    ∙ first_none f (suc i) n (λ k lo hi. h k (omega arith) (omega arith))

pub first_some : (f : ℕ → Bool) (i n k : ℕ) → i ≤ k → k < i + n → ((j : ℕ) → i ≤ j → j < k → f j ≡ true) → f k ≡ false → first_failing f i n ≡ Some k
first_some f i zero k lo hi h e = absurd (omega arith)
first_some f i (suc n) k lo hi h e =
    ⊎_elim
    (λ (s : i ≡ k). cond-false (f i) _ _ (ap f s ∙ e) ∙ ap Some s)
    (λ (ne : i ≡ k → ⊥).
    cond-true (f i) _ _ (h i (omega arith) (omega (arith, ne)))
    ∙ first_some f (suc i) n k (omega (arith, ne)) (omega arith) (λ j l m. h j (omega arith) m) e)
    (cases_eq i k)

pub first_none_at : (f : ℕ → Bool) (i n : ℕ) → first_failing f i n ≡ None → (k : ℕ) → i ≤ k → k < i + n → f k ≡ true
first_none_at f i zero h k lo hi = absurd (omega arith)
first_none_at f i (suc n) h k lo hi = step (f i) refl h (λ r. first_none_at f (suc i) n r k)
  where
    step : (b : Bool) → f i ≡ b → cond b (first_failing f (suc i) n) (Some i) ≡ None → (first_failing f (suc i) n ≡ None → suc i ≤ k → k < suc i + n → f k ≡ true) → f k ≡ true
    step true e r later =
        ⊎_elim
        (λ (s : i ≡ k). sym (ap f s) ∙ e)
        (λ (ne : i ≡ k → ⊥). later r (omega (arith, ne)) (omega arith))
        (cases_eq i k)
    step false e r later = absurd (cc)

-- what the first failing number is
pub record First (f : ℕ → Bool) (i n k : ℕ) : Type 0 where
  pub from : i ≤ k
  pub below : k < i + n
  pub fails : f k ≡ false
  pub before : (j : ℕ) → i ≤ j → j < k → f j ≡ true

pub first_some_at : (f : ℕ → Bool) (i n k : ℕ) → first_failing f i n ≡ Some k → First f i n k
first_some_at f i zero k h = absurd (cc)
first_some_at f i (suc n) k h = step (f i) refl h (first_some_at f (suc i) n k)
  where
    step : (b : Bool) → f i ≡ b → cond b (first_failing f (suc i) n) (Some i) ≡ Some k → (first_failing f (suc i) n ≡ Some k → First f (suc i) n k) → First f i (suc n) k
    step true e r rest =
        let later : First f (suc i) n k = rest r in
        record {
          from = omega (arith, later.from);
          below = omega (arith, later.below);
          fails = later.fails;
          before =
              λ j lo hi.
              ⊎_elim
              (λ (s : i ≡ j). sym (ap f s) ∙ e)
              (λ (ne : i ≡ j → ⊥). later.before j (omega (arith, ne)) hi)
              (cases_eq i j);
        }
    step false e r rest =
        let s : i ≡ k = cc in
        record { from = omega arith; below = omega arith; fails = sym (ap f s) ∙ e; before = λ j lo hi. absurd (omega arith) }

-- the first of a range at which a test fails, as `find` gives it
pub first_found : (f : ℕ → Bool) (n : ℕ) (r : Option ℕ) → MatchOption r ((k : ℕ) → 0 ≤ k → k < n → f k ≡ true) (λ i. (0 ≤ i) × (i < n) × (f i ≡ false) × ((k : ℕ) → 0 ≤ k → k < i → f k ≡ true)) → r ≡ first_failing f 0 n
first_found f n None h = sym (first_none f 0 n (λ j l m. h j l (omega arith)))
first_found f n (Some i) h = sym (first_some f 0 n i (omega arith) (omega (arith, h.1)) h.3 h.2)

numbered : (n k : ℕ) → k < n → slice_index_or (range_with_len 0 n) k 0 ≡ k
numbered n k l = get_or-range_with_len 0 n k 0 l ∙ omega arith

-- whether a test passes at each number of a range, as `all` gives it
pub all_found : (f : ℕ → Bool) (n : ℕ) (r : Bool) → MatchBool r (AllWithin (λ i. f i ≡ true) (range_with_len 0 n) 0 (length (range_with_len 0 n))) ((k : ℕ) × (k < length (range_with_len 0 n)) × HoldsAt (λ i. f i ≡ false) (range_with_len 0 n) k) → r ≡ up_to n f
all_found f n true h =
    sym (up_to_all f n (λ k l. subst (λ (j : ℕ). f j ≡ true) (numbered n k l) (h k 0 (omega arith) (omega (arith, length-range_with_len 0 n)))))
all_found f n false h =
    let l : h.0 < n = omega (arith, h.1, length-range_with_len 0 n) in
    sym (up_to_fails f n h.0 l (subst (λ (j : ℕ). f j ≡ false) (numbered n h.0 l) (h.2 0)))

below_all : (f : ℕ → Bool) (n : ℕ) → ((k : ℕ) → k < n → Follows f k true) → (k : ℕ) → k ≤ n → (j : ℕ) → j < k → f j ≡ true
below_all f n h zero l j m = absurd (omega arith)
below_all f n h (suc k) l j m =
    ⊎_elim
    (λ (e : j ≡ k). ap f e ∙ sym ((h k (omega arith)).after (below_all f n h k (omega arith))))
    (λ (ne : j ≡ k → ⊥). below_all f n h k (omega arith) j (omega (arith, ne)))
    (cases_eq j k)

-- the first at which a test fails, where each answer rests on those before it
pub first_found_after : (f : ℕ → Bool) (n : ℕ) (r : Option ℕ) → MatchOption r ((k : ℕ) → 0 ≤ k → k < n → Follows f k true) (λ i. (0 ≤ i) × (i < n) × Follows f i false × ((k : ℕ) → 0 ≤ k → k < i → Follows f k true)) → r ≡ first_failing f 0 n
first_found_after f n None h = first_found f n None (λ k _ l. below_all f n (λ j m. h j (omega arith) m) n (omega arith) k l)
first_found_after f n (Some i) h =
    let before : (j : ℕ) → j < i → f j ≡ true = below_all f i (λ j m. h.3 j (omega arith) m) i (omega arith) in
    first_found f n (Some i) (h.0, h.1, sym (h.2.after before), λ j _ m. before j m)

pub fails_after : (f : ℕ → Bool) (k : ℕ) (b : Bool) → not b ≡ true → Follows f k b → Follows f k false
fails_after f k true e h = absurd (cc)
fails_after f k false e h = h

pub passes_after : (f : ℕ → Bool) (k : ℕ) (b : Bool) → not b ≡ false → Follows f k b → Follows f k true
passes_after f k true e h = h
passes_after f k false e h = absurd (cc)
