-- Filling a table place by place.
use Rattle.std.proofs.Common.{◌≡◌, ℕ, zero, suc, ◌+◌, ◌<◌, List, ◌∷◌, ◌++◌, length, get_or, drop, set, replicate, refl, ap, ◌∙◌, arith}
use lib.ListN.{length-replicate}
use Rattle.std.proofs.lemmas.List.{drop_more, set_at}
use Rattle.flow.specs.Tables.{filled}

one_more : {A : Type 0} (n : ℕ) (x : A) (xs : List A) → replicate n x ++ (x ∷ xs) ≡ replicate (suc n) x ++ xs
one_more zero x xs = refl
one_more (suc n) x xs = ap (λ ys. x ∷ ys) (one_more n x xs)

pub filled_more : {A : Type 0} (i : ℕ) (x : A) (xs ys : List A) → ys ≡ filled i x xs → i < length xs → set ys i x ≡ filled (i + 1) x xs
filled_more i x xs ys e l =
    let q : suc i ≡ i + 1 = omega arith in
    ap (λ zs. set zs i x) e
    ∙ ap (λ zs. set (replicate i x ++ zs) i x) (drop_more xs i x l)
    ∙ set_at (replicate i x) (get_or xs i x) (drop (i + 1) xs) x i (length-replicate i x)
    ∙ one_more i x (drop (i + 1) xs)
    ∙ ap (λ n. replicate n x ++ drop (i + 1) xs) q
