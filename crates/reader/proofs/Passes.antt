-- Two passes over a class's fields are one look at each.
use Rattle.std.proofs.Common.{◌≡◌, ℕ, zero, suc, ◌<◌, ◌≤◌, Bool, true, false, ◌&&◌, ◌||◌, ◌==◌, nat_le, nat_lt, List, refl, ap, ◌∙◌, ⊎_elim}
use Rattle.std.proofs.lemmas.Bool.{cases_lt, lt-ltb, le-ltb, lt-leb, le-leb}
use Rattle.std.proofs.Math.Bool.{and-true}
use Rattle.format.specs.Bytes.{up_to}
use Rattle.format.specs.Tests.{code_at, field_readable, field_agrees}

-- what the first pass asks of field k, which is about the first n, and the second, which is about the others
abbrev pub inherited : List ℕ → ℕ → ℕ → ℕ → ℕ → Bool
inherited bs at up n k = nat_le n k || (code_at bs at k == code_at bs up k)

abbrev pub own : List ℕ → ℕ → ℕ → ℕ → ℕ → Bool
own bs classes at n k = nat_lt k n || field_readable bs classes at k

swap : (a b c d : Bool) → ((a && b) && (c && d)) ≡ ((a && c) && (b && d))
swap false b c d = refl
swap true false false d = refl
swap true false true d = refl
swap true true c d = refl

both_passes : (f g h : ℕ → Bool) (n : ℕ) → ((k : ℕ) → (g k && h k) ≡ f k) → (up_to n g && up_to n h) ≡ up_to n f
both_passes f g h zero e = refl
both_passes f g h (suc n) e =
    swap (g n) (up_to n g) (h n) (up_to n h) ∙ ap (λ b. b && (up_to n g && up_to n h)) (e n) ∙ ap (λ b. f n && b) (both_passes f g h n e)

one_look : (bs : List ℕ) (classes at up n k : ℕ) → (inherited bs at up n k && own bs classes at n k) ≡ field_agrees bs classes at up n k
one_look bs classes at up n k =
    ⊎_elim
    (λ (l : k < n). rw (lt-ltb k n l, lt-leb n k l) (and-true (code_at bs at k == code_at bs up k)))
    (λ (l : n ≤ k). rw (le-ltb k n l, le-leb n k l) refl)
    (cases_lt k n)

pub passes : (bs : List ℕ) (classes at up n : ℕ) → (up_to 8 (inherited bs at up n) && up_to 8 (own bs classes at n)) ≡ up_to 8 (field_agrees bs classes at up n)
passes bs classes at up n = both_passes _ (inherited bs at up n) (own bs classes at n) 8 (one_look bs classes at up n)
