-- A claim whose test passes holds.
use Rattle.std.proofs.Common.{◌≡◌, ℕ, zero, suc, ◌+◌, ◌-◌, ◌<◌, Bool, true, false, cond, ◌&&◌, ◌||◌, eqb, ltb, List, [], ◌∷◌, length, ℤ, pos, negsuc, is_ok, Some, None, Ok, Err, Option, Result, sym, refl, ap, ◌∙◌, subst, inl, inr, ⊎_elim, arith}
use Rattle.std.specs.Prelude.{All}
use Rattle.std.specs.List.{list_all}
use Rattle.std.proofs.lemmas.List.Sums.{AllPass-from_list_all}
use Rattle.std.proofs.lemmas.Option.{same_Some}
use Rattle.std.proofs.lemmas.Bool.{and_parts, or_cases, eqb-true, eqb-false, ltb-true, ltb-false, true≢false, false≢true}
use Rattle.kinds.specs.declared.kind.Kind.{Kind}
use Rattle.kinds.specs.declared.kind.Kind.TheVariants.{Int, Null, Unusable, Class}
use Rattle.format.specs.declared.layout.Layout.{Layout}
use Rattle.format.specs.declared.refusal.ReadError.{ReadError}
use Rattle.format.specs.declared.refusal.Refusal.{Refusal}
use Rattle.format.specs.Parts.{Parts, parent_of}
use Rattle.format.specs.Encoding.{encode}
use Rattle.format.specs.Reading.{reading}
use Rattle.format.specs.Refusals.{read_refusal}
use Rattle.format.proofs.Ranges.{up_to_at}
use Rattle.lattice.specs.Order.{same, Least}
use Rattle.lattice.specs.Order.{Lower}
use Rattle.lattice.proofs.Plain.{below_equal, least_above, least_swap, int_least, null_least, unusable_least}
use Rattle.lattice.proofs.Joins.{climb_least, lone_least}
use Rattle.machine.specs.Configuration.{Configuration, Outcome, goes, returned, stopped, fault}
use Rattle.machine.specs.Runs.{start, steps}
use Rattle.cases.specs.Claims.{Claim, reads, refuses, least, runs, Holds}
use Rattle.cases.specs.Computed.{climb, least_of, same_kind, is_kind, tree_test, same_refusal, refused_with, same_number, ends_alike, goes_on, test}

pub tree_lower : (p : Parts) → tree_test p ≡ true → Lower p
tree_lower p t c z l =
    ⊎_elim (λ (e : eqb c 0 ≡ true). absurd (omega (arith, eqb-true c 0 e))) (λ (e : ltb (parent_of p c) c ≡ true). ltb-true (parent_of p c) c e)
    (or_cases (eqb c 0) (ltb (parent_of p c) c) (up_to_at (λ d. eqb d 0 || ltb (parent_of p d) d) (length p.classes) c t l))

equal_least : (p : Parts) (c d : ℕ) → c ≡ d → Least p (Class c) (Class d) (Class c)
equal_least p c d e = least_swap p (Class d) (Class c) (Class c) (least_above p (Class d) (Class c) (Class c) (below_equal p (Class d) (Class c) (ap Class (sym e))) refl)

climbed : (p : Parts) → Lower p → (n c d : ℕ) (k : Kind) → climb p n c d ≡ Some k → Least p (Class c) (Class d) k
climbed p low zero c d k h = let z : ◌≡◌ {A = ℕ} 0 1 = cc in absurd (omega arith)
climbed p low (suc n) c d k h =
    step (eqb c d) (ltb d c) (ltb c (length p.classes)) (ltb d (length p.classes)) refl refl refl refl h (climbed p low n (parent_of p c) d k) (climbed p low n c (parent_of p d) k)
  where
    step : (a b x y : Bool) → eqb c d ≡ a → ltb d c ≡ b → ltb c (length p.classes) ≡ x → ltb d (length p.classes) ≡ y → cond a (Some (Class c)) (cond b (cond x (climb p n (parent_of p c) d) (Some Unusable)) (cond y (climb p n c (parent_of p d)) (Some Unusable))) ≡ Some k → (climb p n (parent_of p c) d ≡ Some k → Least p (Class (parent_of p c)) (Class d) k) → (climb p n c (parent_of p d) ≡ Some k → Least p (Class c) (Class (parent_of p d)) k) → Least p (Class c) (Class d) k
    step true b x y e f g i r left right = subst (λ (m : Kind). Least p (Class c) (Class d) m) (same_Some (Class c) k r) (equal_least p c d (eqb-true c d e))
    step false true true y e f g i r left right = climb_least p low c d (parent_of p c) k (ltb-true d c f) (ltb-true c _ g) refl (left r)
    step false true false y e f g i r left right = subst (λ (m : Kind). Least p (Class c) (Class d) m) (same_Some Unusable k r) (lone_least p low c d (ltb-true d c f) (ltb-false c _ g))
    step false false x true e f g i r left right =
        let l : c < d = omega (arith, ltb-false d c f, eqb-false c d e) in
        least_swap p (Class d) (Class c) k (climb_least p low d c (parent_of p d) k l (ltb-true d _ i) refl (least_swap p (Class c) (Class (parent_of p d)) k (right r)))
    step false false x false e f g i r left right =
        let l : c < d = omega (arith, ltb-false d c f, eqb-false c d e) in
        subst (λ (m : Kind). Least p (Class c) (Class d) m) (same_Some Unusable k r) (least_swap p (Class d) (Class c) Unusable (lone_least p low d c l (ltb-false d _ i)))

pub same_kind_sound : (j k : Kind) → same_kind j k ≡ true → j ≡ k
same_kind_sound Int Int t = refl
same_kind_sound Int Null t = absurd (false≢true t)
same_kind_sound Int Unusable t = absurd (false≢true t)
same_kind_sound Int (Class d) t = absurd (false≢true t)
same_kind_sound Null Int t = absurd (false≢true t)
same_kind_sound Null Null t = refl
same_kind_sound Null Unusable t = absurd (false≢true t)
same_kind_sound Null (Class d) t = absurd (false≢true t)
same_kind_sound Unusable Int t = absurd (false≢true t)
same_kind_sound Unusable Null t = absurd (false≢true t)
same_kind_sound Unusable Unusable t = refl
same_kind_sound Unusable (Class d) t = absurd (false≢true t)
same_kind_sound (Class c) Int t = absurd (false≢true t)
same_kind_sound (Class c) Null t = absurd (false≢true t)
same_kind_sound (Class c) Unusable t = absurd (false≢true t)
same_kind_sound (Class c) (Class d) t = ap Class (eqb-true c d t)

apart : (a b : Kind) → same_kind a b ≡ false → a ≡ b → ⊥
apart a b f e = false≢true (sym f ∙ subst (λ (x : Kind). same_kind a x ≡ true) e (itself a))
  where
    itself : (x : Kind) → same_kind x x ≡ true
    itself Int = refl
    itself Null = refl
    itself Unusable = refl
    itself (Class c) = Rattle.std.proofs.lemmas.Bool.eq-eqb c c refl

found : (p : Parts) (a b j k : Kind) → Some j ≡ Some k → Least p a b j → Least p a b k
found p a b j k h l = subst (λ (m : Kind). Least p a b m) (same_Some j k h) l

computed_least : (p : Parts) → Lower p → (a b k : Kind) → least_of p a b ≡ Some k → Least p a b k
computed_least p low Int Int k h = found p Int Int Int k h (least_above p Int Int Int same refl)
computed_least p low Int Null k h = found p Int Null Unusable k h (least_swap p Null Int Unusable (int_least p Null Int (apart Null Int refl) refl))
computed_least p low Int Unusable k h = found p Int Unusable Unusable k h (unusable_least p Int Unusable refl)
computed_least p low Int (Class d) k h = found p Int (Class d) Unusable k h (least_swap p (Class d) Int Unusable (int_least p (Class d) Int (apart (Class d) Int refl) refl))
computed_least p low Null Int k h = found p Null Int Unusable k h (int_least p Null Int (apart Null Int refl) refl)
computed_least p low Null Null k h = found p Null Null Null k h (null_least p Null Null refl (inl refl))
computed_least p low Null Unusable k h = found p Null Unusable Unusable k h (unusable_least p Null Unusable refl)
computed_least p low Null (Class d) k h = found p Null (Class d) (Class d) k h (null_least p Null (Class d) refl (inr (d, refl)))
computed_least p low Unusable b k h = found p Unusable b Unusable k h (least_swap p b Unusable Unusable (unusable_least p b Unusable refl))
computed_least p low (Class c) Int k h = found p (Class c) Int Unusable k h (int_least p (Class c) Int (apart (Class c) Int refl) refl)
computed_least p low (Class c) Null k h = found p (Class c) Null (Class c) k h (least_swap p Null (Class c) (Class c) (null_least p Null (Class c) refl (inr (c, refl))))
computed_least p low (Class c) Unusable k h = found p (Class c) Unusable Unusable k h (unusable_least p (Class c) Unusable refl)
computed_least p low (Class c) (Class d) k h = climbed p low (suc (c + d)) c d k h

five_numbers : {n m p q l k f g d e : ℕ} → n ≡ m → p ≡ q → l ≡ k → f ≡ g → d ≡ e → ◌≡◌ {A = Refusal} (record { number = n; place = p; layer = l; fault = f; detail = d }) (record { number = m; place = q; layer = k; fault = g; detail = e })
five_numbers a b c d e = rw (a, b, c, d, e)

same_refusal_sound : (a b : Refusal) → same_refusal a b ≡ true → a ≡ b
same_refusal_sound a b t =
    let n = and_parts (eqb a.number b.number) (eqb a.place b.place && (eqb a.layer b.layer && (eqb a.fault b.fault && eqb a.detail b.detail))) t in
    let p = and_parts (eqb a.place b.place) (eqb a.layer b.layer && (eqb a.fault b.fault && eqb a.detail b.detail)) n.1 in
    let l = and_parts (eqb a.layer b.layer) (eqb a.fault b.fault && eqb a.detail b.detail) p.1 in
    let f = and_parts (eqb a.fault b.fault) (eqb a.detail b.detail) l.1 in
    five_numbers (eqb-true _ _ n.0) (eqb-true _ _ p.0) (eqb-true _ _ l.0) (eqb-true _ _ f.0) (eqb-true _ _ f.1)

refused : (bs : List ℕ) (r : Refusal) → refused_with (reading bs) r ≡ true → (e : ReadError) × (reading bs ≡ Err e) × (read_refusal e ≡ r)
refused bs r t = step (reading bs) refl t
  where
    step : (x : Result Layout ReadError) → reading bs ≡ x → refused_with x r ≡ true → (e : ReadError) × (reading bs ≡ Err e) × (read_refusal e ≡ r)
    step (Ok l) h u = absurd (false≢true u)
    step (Err e) h u = (e, h, same_refusal_sound (read_refusal e) r u)

least_holds : (p : Parts) (a b k : Kind) → (tree_test p && is_kind (least_of p a b) k) ≡ true → Least p a b k
least_holds p a b k t =
    let s = and_parts (tree_test p) (is_kind (least_of p a b) k) t in
    step (least_of p a b) refl s.1 (tree_lower p s.0)
  where
    step : (o : Option Kind) → least_of p a b ≡ o → is_kind o k ≡ true → Lower p → Least p a b k
    step None h u low = absurd (false≢true u)
    step (Some j) h u low = computed_least p low a b k (h ∙ ap Some (same_kind_sound j k u))

pub same_number_sound : (a b : ℤ) → same_number a b ≡ true → a ≡ b
same_number_sound (pos a) (pos b) t = ap pos (eqb-true a b t)
same_number_sound (pos a) (negsuc b) t = absurd (false≢true t)
same_number_sound (negsuc a) (pos b) t = absurd (false≢true t)
same_number_sound (negsuc a) (negsuc b) t = ap negsuc (eqb-true a b t)

ended_alike : (x o : Outcome) → ends_alike x o ≡ true → x ≡ o
ended_alike (goes c) o t = absurd (false≢true t)
ended_alike (returned a) (goes d) t = absurd (false≢true t)
ended_alike (returned a) (returned b) t = ap returned (same_number_sound a b t)
ended_alike (returned a) (stopped b) t = absurd (false≢true t)
ended_alike (returned a) (fault b) t = absurd (false≢true t)
ended_alike (stopped a) (goes d) t = absurd (false≢true t)
ended_alike (stopped a) (returned b) t = absurd (false≢true t)
ended_alike (stopped a) (stopped b) t = ap stopped (eqb-true a b t)
ended_alike (stopped a) (fault b) t = absurd (false≢true t)
ended_alike (fault a) (goes d) t = absurd (false≢true t)
ended_alike (fault a) (returned b) t = absurd (false≢true t)
ended_alike (fault a) (stopped b) t = absurd (false≢true t)
ended_alike (fault a) (fault b) t = ap fault (eqb-true a b t)

still_going : (x : Outcome) → goes_on x ≡ true → (c : Configuration) × (x ≡ goes c)
still_going (goes c) t = (c, refl)
still_going (returned a) t = absurd (false≢true t)
still_going (stopped a) t = absurd (false≢true t)
still_going (fault a) t = absurd (false≢true t)

holds : (c : Claim) → test c ≡ true → Holds c
holds (reads p n) t = let s = and_parts (eqb (length (encode p)) n) (is_ok (reading (encode p))) t in (eqb-true _ _ s.0, s.1)
holds (refuses bs r) t = refused bs r t
holds (least p a b k) t = least_holds p a b k t
holds (runs p v n o) t =
    let s = and_parts (goes_on (steps p (n - 1) (start p v))) (ends_alike (steps p n (start p v)) o) t in
    (still_going (steps p (n - 1) (start p v)) s.0, ended_alike (steps p n (start p v)) o s.1)

-- every claim of a list
pub every_holds : (cs : List Claim) → list_all test cs ≡ true → All Holds cs
every_holds cs t = λ k d l. holds _ (AllPass-from_list_all test cs t k d l)
