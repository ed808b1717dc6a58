-- Stacks compared and joined from the bottom up.
use Rattle.std.proofs.Common.{◌≡◌, ℕ, suc, ◌+◌, ◌<◌, ◌≤◌, Bool, true, false, ◌&&◌, ◌||◌, ◌≢◌, List, [], ◌∷◌, ◌++◌, length, get_or, set, take, reverse, Some, None, Ok, Err, MatchBool, sym, refl, ap, ◌∙◌, subst, arith, length-set}
use Rattle.std.proofs.lemmas.List.{take_more, take_more_set, reverse-append, reverse-reverse, length-reverse, take_all}
use Rattle.std.proofs.Math.Bool.{and-false}
use Rattle.std.specs.List.{list_all, zip}
use Rattle.kinds.specs.declared.kind.Kind.{Kind}
use Rattle.kinds.specs.declared.kind.Kind.TheVariants.{Int}
use Rattle.format.specs.Parts.{Parts}
use Rattle.lattice.specs.Computing.{lies, least_of}
use Rattle.analysis_theory.specs.Methods.{Joined}
use Rattle.types_theory.specs.Order.{all_below, on_top, joined_kinds}

-- the first kinds as a stack, with one more on top
pub stack_more : (xs : List Kind) (n : ℕ) → n < length xs → reverse (take (n + 1) xs) ≡ get_or xs n Int ∷ reverse (take n xs)
stack_more xs n l = ap reverse (take_more xs n Int l) ∙ reverse-append (take n xs) (get_or xs n Int ∷ [])

-- the first kinds, where they are all of them
stack_whole : (ks : List Kind) (n : ℕ) → length ks ≤ n → reverse (take n (reverse ks)) ≡ ks
stack_whole ks n l =
    let all : length (reverse ks) ≤ n = omega (arith, length-reverse ks) in
    ap reverse (take_all n (reverse ks) all) ∙ reverse-reverse ks

-- with one more on top, two stacks differ exactly if they did, or if the kinds on top do
told_more : (rose risen : Bool) (k j : Kind) (ks js : List Kind) → MatchBool rose (ks ≢ js) (ks ≡ js) → MatchBool risen (k ≢ j) (k ≡ j) → MatchBool (rose || risen) (k ∷ ks ≢ j ∷ js) (k ∷ ks ≡ j ∷ js)
told_more true risen k j ks js h e = λ q. h (cc q)
told_more false true k j ks js h e = λ q. e (cc q)
told_more false false k j ks js h e = cc

module _ (p : Parts) where
  -- the first n kinds from the bottom are joined, the depth is as it was, and it is told whether one of them rose
  pub record JoinedTo (ks js : List Kind) (n : ℕ) (zs : List Kind) (rose : Bool) : Type 0 where
    pub size : length zs ≡ length ks
    pub joins : joined_kinds p (reverse (take n (reverse ks))) (reverse (take n (reverse js))) ≡ Some (reverse (take n (reverse zs)))
    pub told : MatchBool rose (reverse (take n (reverse zs)) ≢ reverse (take n (reverse ks))) (reverse (take n (reverse zs)) ≡ reverse (take n (reverse ks)))

  pub joined_none : (ks js : List Kind) → JoinedTo ks js 0 ks false
  joined_none ks js = record { size = refl; joins = refl; told = refl }

  -- stacks of other depths do not compare, and have no join
  other_depths : (ks js : List Kind) → length ks ≢ length js → all_below p ks js ≡ false
  other_depths [] [] n = absurd (n refl)
  other_depths [] (j ∷ js) n = refl
  other_depths (k ∷ ks) [] n = refl
  other_depths (k ∷ ks) (j ∷ js) n = rw (other_depths ks js (λ q. n (ap suc q))) (and-false (lies p k j))

  no_join : (ks js : List Kind) → length ks ≢ length js → joined_kinds p ks js ≡ None
  no_join [] [] n = absurd (n refl)
  no_join [] (j ∷ js) n = refl
  no_join (k ∷ ks) [] n = refl
  no_join (k ∷ ks) (j ∷ js) n = rw (no_join ks js (λ q. n (ap suc q))) refl

  -- the kinds at the bottom come last
  below_end : (ks js : List Kind) (k j : Kind) → length ks ≡ length js → all_below p (ks ++ k ∷ []) (js ++ j ∷ []) ≡ (lies p k j && all_below p ks js)
  below_end [] [] k j l = refl
  below_end [] (y ∷ ys) k j l = absurd (omega arith)
  below_end (x ∷ xs) [] k j l = absurd (omega arith)
  below_end (x ∷ xs) (y ∷ ys) k j l = rw (below_end xs ys k j (omega arith)) (swap (lies p x y) (lies p k j) (all_below p xs ys))
    where
      swap : (a b c : Bool) → (a && (b && c)) ≡ (b && (a && c))
      swap true b c = refl
      swap false true c = refl
      swap false false c = refl

  below_upward : (xs ys : List Kind) → length xs ≡ length ys → list_all (λ q. lies p q.0 q.1) (zip xs ys) ≡ all_below p (reverse xs) (reverse ys)
  below_upward [] [] l = refl
  below_upward [] (y ∷ ys) l = absurd (omega arith)
  below_upward (x ∷ xs) [] l = absurd (omega arith)
  below_upward (x ∷ xs) (y ∷ ys) l =
      let e : length (reverse xs) ≡ length (reverse ys) = omega (arith, length-reverse xs, length-reverse ys) in
      ap (λ b. lies p x y && b) (below_upward xs ys (omega arith))
      ∙ sym (below_end (reverse xs) (reverse ys) x y e)
      ∙ ap (λ ks. all_below p ks (reverse ys ++ y ∷ [])) (sym (reverse-append (x ∷ []) xs))
      ∙ ap (λ js. all_below p (reverse (x ∷ xs)) js) (sym (reverse-append (y ∷ []) ys))

  -- the kinds of two stacks from the bottom
  module _ (ks js xs ys : List Kind) (first : xs ≡ reverse ks) (second : ys ≡ reverse js) where
    front : reverse xs ≡ ks
    front = ap reverse first ∙ reverse-reverse ks

    back : reverse ys ≡ js
    back = ap reverse second ∙ reverse-reverse js

    pub below_all : length xs ≡ length ys → list_all (λ q. lies p q.0 q.1) (zip xs ys) ≡ all_below p ks js
    below_all l = below_upward xs ys l ∙ ap (λ zs. all_below p zs (reverse ys)) front ∙ ap (all_below p ks) back

    pub below_unlike : length xs ≢ length ys → false ≡ all_below p ks js
    below_unlike n =
        sym (other_depths ks js (λ q. n (ap length first ∙ length-reverse ks ∙ q ∙ sym (length-reverse js) ∙ sym (ap length second))))

    -- one more kind from the bottom is joined
    pub joined_more : (n : ℕ) (zs ws : List Kind) (k : Kind) (rose risen : Bool) → JoinedTo ks js n zs rose → length ks ≡ length js → n < length ys → k ≡ least_of p (get_or xs n Int) (get_or ys n Int) → MatchBool risen (k ≢ get_or xs n Int) (k ≡ get_or xs n Int) → ws ≡ reverse (set (reverse zs) n k) → JoinedTo ks js (n + 1) ws (rose || risen)
    joined_more n zs ws k rose risen h same t e f g =
        let size = h.size in
        let r : n < length (reverse js) = subst (λ us. n < length us) second t in
        let l : n < length (reverse ks) = omega (arith, length-reverse ks, length-reverse js) in
        let m : n < length (reverse zs) = omega (arith, length-reverse ks, length-reverse zs) in
        let top : least_of p (get_or (reverse ks) n Int) (get_or (reverse js) n Int) ≡ k =
        ap (λ us. least_of p (get_or us n Int) (get_or (reverse js) n Int)) (sym first)
        ∙ ap (λ us. least_of p (get_or xs n Int) (get_or us n Int)) (sym second) ∙ sym e in
        let rise : MatchBool risen (k ≢ get_or (reverse ks) n Int) (k ≡ get_or (reverse ks) n Int) =
        subst (λ us. MatchBool risen (k ≢ get_or us n Int) (k ≡ get_or us n Int)) first f in
        let low : reverse (take (n + 1) (reverse ws)) ≡ k ∷ reverse (take n (reverse zs)) =
        ap (λ us. reverse (take (n + 1) (reverse us))) g
        ∙ ap (λ us. reverse (take (n + 1) us)) (reverse-reverse (set (reverse zs) n k))
        ∙ ap reverse (take_more_set (reverse zs) n k m) ∙ reverse-append (take n (reverse zs)) (k ∷ []) in
        record {
          size =
              ap length g ∙ length-reverse (set (reverse zs) n k) ∙ length-set (reverse zs) n k ∙ length-reverse zs ∙ size;
          joins = rw (low, stack_more (reverse ks) n l, stack_more (reverse js) n r, top) (ap (on_top k) h.joins);
          told =
              rw (low, stack_more (reverse ks) n l)
              (told_more rose risen k (get_or (reverse ks) n Int) (reverse (take n (reverse zs))) (reverse (take n (reverse ks))) h.told rise);
        }

    -- all kinds are joined
    pub joined_all : (n : ℕ) (zs : List Kind) (rose : Bool) → JoinedTo ks js n zs rose → length ks ≡ length js → length ys ≤ n → Joined (joined_kinds p ks js) ks (Ok rose) zs
    joined_all n zs rose h same t =
        let size = h.size in
        let other : length js ≤ n = omega (arith, length-reverse js, ap length second) in
        let whole : length ks ≤ n = omega arith in
        let changed : length zs ≤ n = omega arith in
        let all : joined_kinds p ks js ≡ Some zs =
        ap (λ us. joined_kinds p us js) (sym (stack_whole ks n whole))
        ∙ ap (joined_kinds p (reverse (take n (reverse ks)))) (sym (stack_whole js n other))
        ∙ h.joins ∙ ap Some (stack_whole zs n changed) in
        let told : MatchBool rose (zs ≢ ks) (zs ≡ ks) =
        subst (λ us. MatchBool rose (us ≢ ks) (us ≡ ks)) (stack_whole zs n changed)
        (subst (λ us. MatchBool rose (reverse (take n (reverse zs)) ≢ us) (reverse (take n (reverse zs)) ≡ us)) (stack_whole ks n whole) h.told) in
        rw all (refl, told)

  -- stacks of other depths have no join, and the first stays as it was
  pub join_unlike : (ks js : List Kind) → length ks ≢ length js → Joined (joined_kinds p ks js) ks (Err (record {})) ks
  join_unlike ks js n = rw (no_join ks js n) refl
