-- The entries in a table with marks, as a list.
use Rattle.std.proofs.Common.{◌≡◌, ℕ, zero, suc, ◌<◌, cond, eqb, ◌≢◌, List, [], ◌∷◌, length, get_or, set, replicate, Some, None, Option, refl, ap, sym, ◌∙◌, arith, ne_eqb, eq-eqb}
use Rattle.flow.specs.Tables.{marked, listed}

module _ {S : Type 0} where
  length_marked : (table : List S) (marks : List ℕ) → length table ≡ length marks → length (marked table marks) ≡ length table
  length_marked [] marks e = refl
  length_marked (s ∷ table) [] e = absurd (omega arith)
  length_marked (s ∷ table) (k ∷ marks) e = ap suc (length_marked table marks (omega arith))

  -- a place that is in the list is in the table
  pub below_marked : (table : List S) (marks : List ℕ) (i : ℕ) (es : List (Option S)) → marked table marks ≡ es → length table ≡ length marks → i < length es → i < length table
  below_marked table marks i es q e l = omega (arith, length_marked table marks e, ap length q)

  -- nothing is entered where each mark is 0
  pub marked_none : (table : List S) → marked table (replicate (length table) 0) ≡ replicate (length table) None
  marked_none [] = refl
  marked_none (s ∷ table) = ap (λ os. None ∷ os) (marked_none table)

  set_both : (table : List S) (marks : List ℕ) (i : ℕ) (s : S) → length table ≡ length marks → marked (set table i s) (set marks i 1) ≡ set (marked table marks) i (Some s)
  set_both [] marks i s e = refl
  set_both (t ∷ table) [] i s e = absurd (omega arith)
  set_both (t ∷ table) (k ∷ marks) zero s e = refl
  set_both (t ∷ table) (k ∷ marks) (suc i) s e = ap (λ os. cond (eqb k 0) None (Some t) ∷ os) (set_both table marks i s (omega arith))

  -- a state that is entered
  pub marked_set : (table : List S) (marks : List ℕ) (i : ℕ) (s : S) (es : List (Option S)) → marked table marks ≡ es → length table ≡ length marks → marked (set table i s) (set marks i 1) ≡ set es i (Some s)
  marked_set table marks i s es q e = set_both table marks i s e ∙ ap (λ os. set os i (Some s)) q

  -- the entry of a place
  marked_at : (table : List S) (marks : List ℕ) (i : ℕ) (d : S) → length table ≡ length marks → get_or (marked table marks) i None ≡ cond (eqb (get_or marks i 0) 0) None (Some (get_or table i d))
  marked_at [] [] i d e = refl
  marked_at [] (k ∷ marks) i d e = absurd (omega arith)
  marked_at (s ∷ table) [] i d e = absurd (omega arith)
  marked_at (s ∷ table) (k ∷ marks) zero d e = refl
  marked_at (s ∷ table) (k ∷ marks) (suc i) d e = marked_at table marks i d (omega arith)

  pub marked_some : (table : List S) (marks : List ℕ) (i : ℕ) (d : S) (es : List (Option S)) → marked table marks ≡ es → length table ≡ length marks → get_or marks i 0 ≢ 0 → Some (get_or table i d) ≡ get_or es i None
  marked_some table marks i d es q e n = sym (ap (λ os. get_or os i None) (sym q) ∙ marked_at table marks i d e ∙ rw (ne_eqb (get_or marks i 0) 0 n) refl)

  pub marked_zero : (table : List S) (marks : List ℕ) (i : ℕ) (es : List (Option S)) → marked table marks ≡ es → length table ≡ length marks → get_or marks i 0 ≡ 0 → None ≡ get_or es i None
  marked_zero [] marks i es q e n = ap (λ os. get_or os i None) q
  marked_zero (s ∷ table) marks i es q e n = sym (ap (λ os. get_or os i None) (sym q) ∙ marked_at (s ∷ table) marks i s e ∙ rw (eq-eqb (get_or marks i 0) 0 n) refl)

  -- no instruction has an entry
  pub nothing_listed : (n : ℕ) (es : List (Option S)) → es ≡ replicate n None → (i : ℕ) → listed es i ≡ None
  nothing_listed n es e i = ap (λ os. listed os i) e ∙ nothing n i
    where
      nothing : (k j : ℕ) → listed {S = S} (replicate k None) j ≡ None
      nothing zero j = refl
      nothing (suc k) zero = refl
      nothing (suc k) (suc j) = nothing k j
