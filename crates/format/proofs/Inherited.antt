-- One look at each field of a class decides its rule: what it has from its parent equals the parent's, which was found good
-- before, and only what is its own has to be looked at by itself.
use Rattle.std.proofs.Common.{◌≡◌, ℕ, ◌+◌, ◌*◌, ◌<◌, ◌≤◌, Bool, true, false, ◌&&◌, eqb, ltb, leb, ◌⊎◌, List, sym, ap, ◌∙◌, ⊎_elim, arith}
use Rattle.std.proofs.lemmas.Bool.{and_parts, and_from, and_left, and_right, cond-true, cond-false, eqb-true, eq-eqb, ne_eqb, lt-ltb, le-ltb, le-leb, lt-leb, cases_lt}
use Rattle.std.proofs.Math.Bool.{and-true}
use Rattle.std.proofs.lemmas.Bool.Decides.{same_from_decides}
use Rattle.format.specs.declared.layout.Span.{Span}
use Rattle.format.specs.Bytes.{word_at, up_to}
use Rattle.format.specs.Tests.{storable, count_at, code_at, field_readable, field_agrees, extends, descends, class_readable}
use Rattle.format.proofs.Ranges.{up_to_all, up_to_at}

module _ (bs : List ℕ) (s : Span) (i : ℕ) where
  abbrev at : ℕ
  at = s.start + 19 * i

  abbrev up : ℕ
  up = s.start + 19 * word_at bs at

  abbrev fields : Bool
  fields = up_to 8 (field_readable bs s.count at)

  -- the root
  pub root_decides : (r : Bool) → i ≡ 0 → word_at bs at ≡ 0 → count_at bs at ≡ 0 → r ≡ up_to 8 (field_agrees bs s.count at at 0) → r ≡ class_readable bs s i
  root_decides r z p c e =
      let few : leb (count_at bs at) 8 ≡ true = le-leb _ _ (omega (arith, c)) in
      let d : descends bs s.start i ≡ true =
      cond-true (eqb i 0) (eqb (word_at bs at) 0 && eqb (count_at bs at) 0) (ltb (word_at bs at) i && extends bs at up) (eq-eqb i 0 z)
      ∙ and_from (eqb (word_at bs at) 0) (eqb (count_at bs at) 0) (eq-eqb _ _ p) (eq-eqb _ _ c) in
      e ∙ sym (ap (λ b. b && (fields && descends bs s.start i)) few ∙ ap (λ b. fields && b) d ∙ and-true fields)

  -- any other class, whose parent has a lower number and no more fields
  module _ (before : (j : ℕ) → j < i → class_readable bs s j ≡ true) (z : i ≡ 0 → ⊥) (low : word_at bs at < i) (more : count_at bs up ≤ count_at bs at) (few : count_at bs at ≤ 8) where
    -- every field agrees
    abbrev Agrees : Type 0
    Agrees = (k : ℕ) → k < 8 → field_agrees bs s.count at up (count_at bs up) k ≡ true

    same_code : Agrees → (k : ℕ) → k < count_at bs up → eqb (code_at bs at k) (code_at bs up k) ≡ true
    same_code h k l =
        sym (cond-true (ltb k (count_at bs up)) (eqb (code_at bs at k) (code_at bs up k)) (field_readable bs s.count at k) (lt-ltb _ _ l)) ∙ h k (omega (arith, more, few))

    parent_good : (k : ℕ) → k < count_at bs up → storable s.count (code_at bs up k) ≡ true
    parent_good k l =
        let p = and_parts (up_to 8 (field_readable bs s.count up)) (descends bs s.start (word_at bs at))
        (and_parts (leb (count_at bs up) 8) (up_to 8 (field_readable bs s.count up) && descends bs s.start (word_at bs at)) (before (word_at bs at) low)).1 in
        sym (cond-true (ltb k (count_at bs up)) (storable s.count (code_at bs up k)) (eqb (code_at bs up k) 0) (lt-ltb _ _ l))
        ∙ up_to_at (field_readable bs s.count up) 8 k p.0 (omega (arith, more, few))

    field_good : Agrees → (k : ℕ) → k < 8 → field_readable bs s.count at k ≡ true
    field_good h k l =
        ⊎_elim
        (λ (m : k < count_at bs up).
        cond-true (ltb k (count_at bs at)) (storable s.count (code_at bs at k)) (eqb (code_at bs at k) 0) (lt-ltb _ _ (omega (arith, m, more)))
        ∙ ap (storable s.count) (eqb-true _ _ (same_code h k m)) ∙ parent_good k m)
        (λ (m : count_at bs up ≤ k).
        sym (cond-false (ltb k (count_at bs up)) (eqb (code_at bs at k) (code_at bs up k)) (field_readable bs s.count at k) (le-ltb _ _ m)) ∙ h k l)
        (cases_lt k (count_at bs up))

    agrees_reads : Agrees → class_readable bs s i ≡ true
    agrees_reads h =
        and_from (leb (count_at bs at) 8) (fields && descends bs s.start i) (le-leb _ _ few)
        (and_from fields (descends bs s.start i) (up_to_all (field_readable bs s.count at) 8 (field_good h))
        (cond-false (eqb i 0) (eqb (word_at bs at) 0 && eqb (count_at bs at) 0) (ltb (word_at bs at) i && extends bs at up) (ne_eqb i 0 z)
        ∙ and_from (ltb (word_at bs at) i) (extends bs at up) (lt-ltb _ _ low)
        (and_from (leb (count_at bs up) (count_at bs at)) (up_to (count_at bs up) (λ k. eqb (code_at bs at k) (code_at bs up k))) (le-leb _ _ more)
        (up_to_all (λ k. eqb (code_at bs at k) (code_at bs up k)) (count_at bs up) (same_code h)))))

    reads_agrees : class_readable bs s i ≡ true → Agrees
    reads_agrees t k l =
        let a = and_parts fields (descends bs s.start i) (and_parts (leb (count_at bs at) 8) (fields && descends bs s.start i) t).1 in
        let d = and_parts (ltb (word_at bs at) i) (extends bs at up) (sym (cond-false (eqb i 0) (eqb (word_at bs at) 0 && eqb (count_at bs at) 0) (ltb (word_at bs at) i && extends bs at up) (ne_eqb i 0 z)) ∙ a.1) in
        let x = and_parts (leb (count_at bs up) (count_at bs at)) (up_to (count_at bs up) (λ j. eqb (code_at bs at j) (code_at bs up j))) d.1 in
        ⊎_elim
        (λ (m : k < count_at bs up).
        cond-true (ltb k (count_at bs up)) (eqb (code_at bs at k) (code_at bs up k)) (field_readable bs s.count at k) (lt-ltb _ _ m)
        ∙ up_to_at (λ j. eqb (code_at bs at j) (code_at bs up j)) (count_at bs up) k x.1 m)
        (λ (m : count_at bs up ≤ k).
        cond-false (ltb k (count_at bs up)) (eqb (code_at bs at k) (code_at bs up k)) (field_readable bs s.count at k) (le-ltb _ _ m)
        ∙ up_to_at (field_readable bs s.count at) 8 k a.0 l)
        (cases_lt k (count_at bs up))

    pub other_decides : (r : Bool) → r ≡ up_to 8 (field_agrees bs s.count at up (count_at bs up)) → r ≡ class_readable bs s i
    other_decides r e =
        e ∙ same_from_decides (up_to 8 (field_agrees bs s.count at up (count_at bs up))) (class_readable bs s i)
        (λ t k. up_to_at (field_agrees bs s.count at up (count_at bs up)) 8 k t, up_to_all (field_agrees bs s.count at up (count_at bs up)) 8)
        (reads_agrees, agrees_reads)

  -- a class that breaks one of the plain tests
  pub root_astray : i ≡ 0 → (word_at bs at ≡ 0 → ⊥) ⊎ (count_at bs at ≡ 0 → ⊥) → false ≡ class_readable bs s i
  root_astray z h =
      sym (and_right (leb (count_at bs at) 8) (fields && descends bs s.start i) (and_right fields (descends bs s.start i)
      (cond-true (eqb i 0) (eqb (word_at bs at) 0 && eqb (count_at bs at) 0) (ltb (word_at bs at) i && extends bs at up) (eq-eqb i 0 z)
      ∙ ⊎_elim (λ (n : word_at bs at ≡ 0 → ⊥). and_left (eqb (word_at bs at) 0) (eqb (count_at bs at) 0) (ne_eqb _ _ n)) (λ (n : count_at bs at ≡ 0 → ⊥). and_right (eqb (word_at bs at) 0) (eqb (count_at bs at) 0) (ne_eqb _ _ n)) h)))

  pub too_many : 8 < count_at bs at → false ≡ class_readable bs s i
  too_many h = sym (and_left (leb (count_at bs at) 8) (fields && descends bs s.start i) (lt-leb _ _ h))

  astray : (i ≡ 0 → ⊥) → (ltb (word_at bs at) i && extends bs at up) ≡ false → false ≡ class_readable bs s i
  astray z h =
      sym (and_right (leb (count_at bs at) 8) (fields && descends bs s.start i) (and_right fields (descends bs s.start i)
      (cond-false (eqb i 0) (eqb (word_at bs at) 0 && eqb (count_at bs at) 0) (ltb (word_at bs at) i && extends bs at up) (ne_eqb i 0 z) ∙ h)))

  pub not_lower : (i ≡ 0 → ⊥) → i ≤ word_at bs at → false ≡ class_readable bs s i
  not_lower z h = astray z (and_left (ltb (word_at bs at) i) (extends bs at up) (le-ltb _ _ h))

  pub not_extending : (i ≡ 0 → ⊥) → count_at bs at < count_at bs up → false ≡ class_readable bs s i
  not_extending z h =
      astray z (and_right (ltb (word_at bs at) i) (extends bs at up)
      (and_left (leb (count_at bs up) (count_at bs at)) (up_to (count_at bs up) (λ k. eqb (code_at bs at k) (code_at bs up k))) (lt-leb _ _ h)))
