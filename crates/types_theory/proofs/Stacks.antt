-- The order of stacks, from the order of kinds.
use Rattle.std.proofs.Common.{◌≡◌, ◌<◌, true, ◌⊎◌, List, [], ◌∷◌, length, Some, None, Option, sym, refl, ap, subst, inl, inr, ⊎_elim, arith}
use Rattle.std.proofs.lemmas.Bool.{and_from, and_parts, false≢true}
use Rattle.kinds.specs.declared.kind.Kind.{Kind}
use Rattle.format.specs.Parts.{Parts}
use Rattle.lattice.specs.Order.{Lower}
use Rattle.lattice.specs.Computing.{lies, least_of}
use Rattle.lattice.specs.Height.{kind_height}
use Rattle.types_theory.specs.Order.{known, all_known, all_below, on_top, joined_kinds, heights}
use Rattle.types_theory.proofs.KindOrder.{lies_same, lies_further, lies_both, lies_left, lies_right, lies_least, lies_falls, known_least}

-- stacks of equal depth, kind by kind
pub data StackBelow (p : Parts) : List Kind → List Kind → Type 0 where
  none : StackBelow p [] []
  more : {k j : Kind} {ks js : List Kind} → lies p k j ≡ true → StackBelow p ks js → StackBelow p (k ∷ ks) (j ∷ js)

pub is_below : (p : Parts) (ks js : List Kind) → all_below p ks js ≡ true → StackBelow p ks js
is_below p [] [] h = none
is_below p [] (j ∷ js) h = absurd (false≢true h)
is_below p (k ∷ ks) [] h = absurd (false≢true h)
is_below p (k ∷ ks) (j ∷ js) h = let u = and_parts (lies p k j) (all_below p ks js) h in more u.0 (is_below p ks js u.1)

pub below_is : (p : Parts) {ks js : List Kind} → StackBelow p ks js → all_below p ks js ≡ true
below_is p none = refl
below_is p (more h k) = and_from _ _ h (below_is p k)

pub below_length : (p : Parts) {ks js : List Kind} → StackBelow p ks js → length ks ≡ length js
below_length p none = refl
below_length p (more h k) = let e = below_length p k in omega arith

-- stacks and the least one above them
pub data StackJoin (p : Parts) : List Kind → List Kind → List Kind → Type 0 where
  none : StackJoin p [] [] []
  more : {k j : Kind} {ks js ls : List Kind} → StackJoin p ks js ls → StackJoin p (k ∷ ks) (j ∷ js) (least_of p k j ∷ ls)

on_top_some : (k : Kind) (o : Option (List Kind)) (ls : List Kind) → on_top k o ≡ Some ls → (ms : List Kind) × (o ≡ Some ms) × (ls ≡ k ∷ ms)
on_top_some k (Some ms) ls e = (ms, refl, grind arith)
on_top_some k None ls e = absurd (grind arith)

on_none : (k : Kind) (o : Option (List Kind)) → on_top k o ≡ None → o ≡ None
on_none k (Some ms) e = absurd (grind arith)
on_none k None e = refl

pub is_join : (p : Parts) (ks js ls : List Kind) → joined_kinds p ks js ≡ Some ls → StackJoin p ks js ls
is_join p [] [] ls e = let q : [] ≡ ls = grind arith in subst (StackJoin p [] []) q none
is_join p [] (j ∷ js) ls e = absurd (grind arith)
is_join p (k ∷ ks) [] ls e = absurd (grind arith)
is_join p (k ∷ ks) (j ∷ js) ls e =
    let u = on_top_some (least_of p k j) (joined_kinds p ks js) ls e in
    subst (StackJoin p (k ∷ ks) (j ∷ js)) (sym u.2) (more (is_join p ks js u.0 u.1))

pub join_refused : (p : Parts) (ks js : List Kind) {ls : List Kind} → joined_kinds p ks js ≡ None → StackBelow p ks ls → StackBelow p js ls → ⊥
join_refused p [] [] e none none = grind arith
join_refused p [] (j ∷ js) e none b = elim b [ ]
join_refused p (k ∷ ks) [] e a none = elim a [ ]
join_refused p (k ∷ ks) (j ∷ js) e (more a b) (more c d) = join_refused p ks js (on_none (least_of p k j) (joined_kinds p ks js) e) b d

module _ (p : Parts) (low : Lower p) where
  pub stack_same : (ks : List Kind) → StackBelow p ks ks
  stack_same [] = none
  stack_same (k ∷ ks) = more (lies_same p low k) (stack_same ks)

  pub stack_further : {ks js ls : List Kind} → StackBelow p ks js → StackBelow p js ls → StackBelow p ks ls
  stack_further none none = none
  stack_further (more {k = i} {j = j} a b) (more {j = k} c d) = more (lies_further p low i j k a c) (stack_further b d)

  pub stack_both : {ks js : List Kind} → StackBelow p ks js → StackBelow p js ks → ks ≡ js
  stack_both none none = refl
  stack_both (more {k = k} {j = j} a b) (more c d) =
      let e = lies_both p low k j a c in
      let f = stack_both b d in
      cc

  pub stack_falls : {ks js : List Kind} → StackBelow p ks js → (ks ≡ js) ⊎ (heights p js < heights p ks)
  stack_falls none = inl refl
  stack_falls (more {k = k} {j = j} {ks = ks} {js = js} a b) =
      ⊎_elim
      (λ (e : k ≡ j).
      let g = ap (kind_height p) e in
      ⊎_elim
      (λ (f : ks ≡ js). inl (cc))
      (λ (f : heights p js < heights p ks). inr (omega arith))
      (stack_falls b))
      (λ (e : kind_height p j < kind_height p k).
      ⊎_elim
      (λ (f : ks ≡ js). let g = ap (heights p) f in inr (omega arith))
      (λ (f : heights p js < heights p ks). inr (omega arith))
      (stack_falls b))
      (lies_falls p low k j a)

  pub join_left : {ks js ls : List Kind} → StackJoin p ks js ls → StackBelow p ks ls
  join_left none = none
  join_left (more {k = k} {j = j} h) = more (lies_left p low k j) (join_left h)

  pub join_right : {ks js ls : List Kind} → StackJoin p ks js ls → StackBelow p js ls
  join_right none = none
  join_right (more {k = k} {j = j} h) = more (lies_right p low k j) (join_right h)

  pub join_least : {ks js ls ms : List Kind} → StackJoin p ks js ls → StackBelow p ks ms → StackBelow p js ms → StackBelow p ls ms
  join_least none none none = none
  join_least (more {k = i} {j = j} h) (more {j = k} a b) (more c d) = more (lies_least p low i j k a c) (join_least h b d)

  pub join_known : {ks js ls : List Kind} → StackJoin p ks js ls → all_known p ks ≡ true → all_known p js ≡ true → all_known p ls ≡ true
  join_known none h k = refl
  join_known (more {k = x} {j = y} {ks = ks} {js = js} j) h k =
      let u = and_parts (known p x) (all_known p ks) h in
      let v = and_parts (known p y) (all_known p js) k in
      and_from _ _ (known_least p low x y u.0 v.0) (join_known j u.1 v.1)
