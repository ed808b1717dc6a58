-- Cells after a kind was put on top, or taken off.
use Rattle.std.proofs.Common.{◌≡◌, ℕ, zero, suc, ◌+◌, ◌-◌, ◌<◌, ◌≤◌, min, map, reverse, take, slice_index_or, ⊎_elim, Bool, true, false, not, ◌&&◌, ◌==◌, ◌≢◌, Decides, MatchBool, List, ◌∷◌, length, drop, set, replicate, refl, subst, sym, ap, ◌∙◌, arith, length-set, eqb-true, eq-eqb}
use Rattle.std.specs.List.{range_with_len}
use Rattle.std.proofs.lemmas.List.{drop-drop, drop-replicate, drop-set, drop-set-lt, get_or-append_right, get_or-replicate, get_or_past, get_or-take, length-replicate, length-reverse, length-take}
use Rattle.std.proofs.lemmas.Bool.{and_from, and_parts, cases_lt}
use Rattle.std.proofs.lemmas.Slice.Eq.{slice_eq-Decides}
use Rattle.std.specs.Cmp.Lexicographic.{pointwise}
use Rattle.kinds.specs.declared.kind.Kind.{Kind}
use Rattle.kinds.specs.declared.kind.Kind.TheVariants.{Int}
use Rattle.types.specs.declared.operands.Operands.TheInside.{Inside}
use Rattle.types.specs.Cells.{Cells, cells_of, stack_in, stack_back}

-- the cells from the next one on
rest_clear : (s : Inside) → Cells s → drop (s.depth + 1) s.kinds ≡ replicate (16 - (s.depth + 1)) Int
rest_clear s c =
    sym (drop-drop 1 s.depth s.kinds) ∙ ap (drop 1) c.clear ∙ drop-replicate 1 (16 - s.depth) Int
    ∙ ap (λ n. replicate n Int) (let e : 16 - s.depth - 1 ≡ 16 - (s.depth + 1) = omega arith in e)

pub cells_push : (s : Inside) (k : Kind) → Cells s → s.depth < 16 → Cells (record { kinds = set s.kinds s.depth k; depth = s.depth + 1 })
cells_push s k c l =
    let sixteen = c.sixteen in
    record {
      sixteen = length-set s.kinds s.depth k ∙ sixteen;
      few = omega arith;
      clear = drop-set-lt (s.depth + 1) s.kinds s.depth k (omega arith) ∙ rest_clear s c;
    }

pub cells_pop : (s : Inside) (d : ℕ) → Cells s → s.depth ≡ d + 1 → Cells (record { kinds = set s.kinds d Int; depth = d })
cells_pop s d c e =
    let sixteen = c.sixteen in
    let few = c.few in
    record {
      sixteen = length-set s.kinds d Int ∙ sixteen;
      few = omega arith;
      clear =
          drop-set s.kinds d Int (omega arith)
          ∙ ap (λ n. Int ∷ drop n s.kinds) (sym e)
          ∙ ap (λ ks. Int ∷ ks) c.clear
          ∙ ap (λ n. replicate n Int) (let q : suc (16 - s.depth) ≡ 16 - d = omega arith in q);
    }

-- what the test of all cells and of the depth tells of two stacks
same_cells : {E : Kind → Kind → Bool} → ((a b : Kind) → Decides (E a b) (a ≡ b)) → (ks js : List Kind) → Decides (pointwise E (cells_of ks).kinds (cells_of js).kinds && (length ks == length js)) (ks ≡ js)
same_cells {E} same ks js = (yes, no)
  where
    kinds : Decides (pointwise E (cells_of ks).kinds (cells_of js).kinds) ((cells_of ks).kinds ≡ (cells_of js).kinds)
    kinds = slice_eq-Decides same (cells_of ks).kinds (cells_of js).kinds _ refl

    yes : (pointwise E (cells_of ks).kinds (cells_of js).kinds && (length ks == length js)) ≡ true → ks ≡ js
    yes e =
        let both = and_parts (pointwise E (cells_of ks).kinds (cells_of js).kinds) (length ks == length js) e in
        let cells = kinds.0 both.0 in
        let depth = eqb-true (length ks) (length js) both.1 in
        sym (stack_back ks) ∙ (λ i. stack_in (record { kinds = cells i; depth = depth i })) ∙ stack_back js

    no : ks ≡ js → (pointwise E (cells_of ks).kinds (cells_of js).kinds && (length ks == length js)) ≡ true
    no e = and_from _ _ (kinds.1 (ap (λ xs. (cells_of xs).kinds) e)) (eq-eqb (length ks) (length js) (ap length e))

pub unlike_tells : {E : Kind → Kind → Bool} → ((a b : Kind) → Decides (E a b) (a ≡ b)) → (ks js : List Kind) (r : Bool) → r ≡ not (pointwise E (cells_of ks).kinds (cells_of js).kinds && (length ks == length js)) → MatchBool r (ks ≢ js) (ks ≡ js)
unlike_tells {E} same ks js r e = subst (λ b. MatchBool b (ks ≢ js) (ks ≡ js)) (sym e) (go _ (same_cells same ks js))
  where
    go : (b : Bool) → Decides b (ks ≡ js) → MatchBool (not b) (ks ≢ js) (ks ≡ js)
    go true d = d.0 refl
    go false d = λ q. absurd (let h : false ≡ true = d.1 q in grind arith)

-- what the test of two kinds tells of them
pub unlike_kinds : {E : Kind → Kind → Bool} → ((a b : Kind) → Decides (E a b) (a ≡ b)) → (a b : Kind) (r : Bool) → r ≡ not (E a b) → MatchBool r (a ≢ b) (a ≡ b)
unlike_kinds {E} same a b r e = subst (λ c. MatchBool c (a ≢ b) (a ≡ b)) (sym e) (told (E a b) (same a b))
  where
    told : (c : Bool) → Decides c (a ≡ b) → MatchBool (not c) (a ≢ b) (a ≡ b)
    told true d = d.0 refl
    told false d = λ q. absurd (let h : false ≡ true = d.1 q in grind arith)

-- past the top of a stack there is only int
pub cell_past : (ks : List Kind) (k : ℕ) → length ks ≤ k → slice_index_or (cells_of ks).kinds k Int ≡ Int
cell_past ks k l =
    get_or-append_right (reverse ks) (replicate (16 - length ks) Int) (length ks) k Int (length-reverse ks) l
    ∙ ⊎_elim
    (λ (m : k - length ks < 16 - length ks). get_or-replicate (16 - length ks) (k - length ks) Int Int m)
    (λ (m : 16 - length ks ≤ k - length ks). get_or_past (replicate (16 - length ks) Int) (k - length ks) Int (omega (arith, length-replicate (16 - length ks) Int)))
    (cases_lt (k - length ks) (16 - length ks))

-- and so in the sixteen cells, also of a stack that is too large for them
pub clear_cells : (ks : List Kind) (k : ℕ) → min (length ks) 16 ≤ k → slice_index_or (take 16 (cells_of ks).kinds) k Int ≡ Int
clear_cells ks k l =
    ⊎_elim
    (λ (m : k < 16). get_or-take 16 (cells_of ks).kinds k Int m ∙ cell_past ks k (omega arith))
    (λ (m : 16 ≤ k). get_or_past (take 16 (cells_of ks).kinds) k Int (omega (arith, length-take 16 (cells_of ks).kinds)))
    (cases_lt k 16)

-- what holds of f at each place of a table, and of a default, holds of each entry
pub entry : {A : Type 0} (P : A → Type 0) (f : ℕ → A) (d : A) (a n k : ℕ) → (k < n → P (f (a + k))) → P d → P (slice_index_or (map f (range_with_len a n)) k d)
entry P f d a zero k h i = i
entry P f d a (suc n) zero h i = subst (λ (j : ℕ). P (f j)) (omega arith) (h (omega arith))
entry P f d a (suc n) (suc k) h i =
    entry P f d (a + 1) n k (λ l. subst (λ (j : ℕ). P (f j)) (omega arith) (h (omega arith))) i
