-- A class passes its test exactly if it is right.
use Rattle.std.proofs.Common.{◌≡◌, ℕ, ◌+◌, ◌*◌, ◌<◌, ◌≤◌, true, ◌&&◌, eqb, ltb, leb, List, length, Decides, sym, ap, ◌∙◌, ⊎_elim, arith}
use Rattle.std.proofs.lemmas.Bool.{and_parts, and_from, cond-true, cond-false, eqb-true, eq-eqb, ne_eqb, ltb-true, lt-ltb, le-ltb, leb-true, le-leb, cases_eq, cases_lt}
use Rattle.kinds.specs.Codes.{kind_of, kind_code}
use Rattle.format.specs.declared.layout.Layout.{Layout}
use Rattle.format.specs.Bytes.{AllBytes, word_at, up_to}
use Rattle.format.specs.Parts.{ClassParts, Parts, parent_of, field_count, field_of}
use Rattle.format.specs.Encoding.{class_bytes}
use Rattle.format.specs.Rules.{Storable, ClassRule}
use Rattle.format.specs.Decoding.{parts_at}
use Rattle.format.specs.Tests.{storable, count_at, code_at, field_readable, extends, descends, class_readable}
use Rattle.format.specs.Right.{ClassRight}
use Rattle.format.proofs.Ranges.{up_to_all, up_to_at}
use Rattle.format.proofs.Words.{code_of_kind}
use Rattle.format.proofs.Views.{class_count, class_view, field_count_view, field_view}
use Rattle.format.proofs.Storing.{moved, decides_storable}
use Rattle.format.proofs.ClassBytes.{class_here, unused_zero}

module _ (bs : List ℕ) (l : Layout) (c : ℕ) (bytes : AllBytes bs) (few : l.classes.count ≤ 256) (here : c < l.classes.count) (fits : l.classes.start + 19 * l.classes.count ≤ length bs) where
  abbrev at : ℕ
  at = l.classes.start + 19 * c

  abbrev up : ℕ
  up = l.classes.start + 19 * word_at bs at

  abbrev p : Parts
  p = parts_at bs l

  within : at + 19 ≤ length bs
  within = omega arith

  parent_said : parent_of p c ≡ word_at bs at
  parent_said = ap (λ (x : ClassParts). x.parent) (class_view bs l c here)

  count_said : field_count p c ≡ count_at bs at
  count_said = field_count_view bs l c here

  -- of a parent of lower number
  parent_count : word_at bs at < c → field_count p (parent_of p c) ≡ count_at bs up
  parent_count h = ap (field_count p) parent_said ∙ field_count_view bs l (word_at bs at) (omega (arith, here))

  parent_field : word_at bs at < c → (k : ℕ) → k < count_at bs up → field_of p (parent_of p c) k ≡ kind_of (code_at bs up k)
  parent_field h k m = ap (λ d. field_of p d k) parent_said ∙ field_view bs l (word_at bs at) k (omega (arith, here)) m

  -- from the test to the rule
  module _ (t : class_readable bs l.classes c ≡ true) where
    passed_few : count_at bs at ≤ 8
    passed_few = leb-true _ _ (and_parts (leb (count_at bs at) 8) (up_to 8 (field_readable bs l.classes.count at) && descends bs l.classes.start c) t).0

    rest : (up_to 8 (field_readable bs l.classes.count at) && descends bs l.classes.start c) ≡ true
    rest = (and_parts (leb (count_at bs at) 8) (up_to 8 (field_readable bs l.classes.count at) && descends bs l.classes.start c) t).1

    passed_field : (k : ℕ) → k < 8 → field_readable bs l.classes.count at k ≡ true
    passed_field k h = up_to_at (field_readable bs l.classes.count at) 8 k (and_parts (up_to 8 (field_readable bs l.classes.count at)) (descends bs l.classes.start c) rest).0 h

    passed_descends : descends bs l.classes.start c ≡ true
    passed_descends = (and_parts (up_to 8 (field_readable bs l.classes.count at)) (descends bs l.classes.start c) rest).1

    passed_unused : (k : ℕ) → count_at bs at ≤ k → k < 8 → code_at bs at k ≡ 0
    passed_unused k lo hi =
        eqb-true _ _ (sym (cond-false (ltb k (count_at bs at)) (storable l.classes.count (code_at bs at k)) (eqb (code_at bs at k) 0) (le-ltb _ _ lo)) ∙ passed_field k hi)

    passed_storable : (k : ℕ) → k < count_at bs at → Storable l.classes.count (kind_of (code_at bs at k))
    passed_storable k h =
        (decides_storable l.classes.count (code_at bs at k) few).0
        (sym (cond-true (ltb k (count_at bs at)) (storable l.classes.count (code_at bs at k)) (eqb (code_at bs at k) 0) (lt-ltb _ _ h)) ∙ passed_field k (omega (arith, passed_few)))

    passed_root : c ≡ 0 → (eqb (word_at bs at) 0 && eqb (count_at bs at) 0) ≡ true
    passed_root z =
        sym (cond-true (eqb c 0) (eqb (word_at bs at) 0 && eqb (count_at bs at) 0) (ltb (word_at bs at) c && extends bs at up) (eq-eqb c 0 z)) ∙ passed_descends

    passed_parent : 0 < c → (ltb (word_at bs at) c && extends bs at up) ≡ true
    passed_parent z =
        sym (cond-false (eqb c 0) (eqb (word_at bs at) 0 && eqb (count_at bs at) 0) (ltb (word_at bs at) c && extends bs at up) (ne_eqb c 0 (λ e. omega arith))) ∙ passed_descends

    passed_lower : 0 < c → word_at bs at < c
    passed_lower z = ltb-true _ _ (and_parts (ltb (word_at bs at) c) (extends bs at up) (passed_parent z)).0

    passed_extends : 0 < c → (count_at bs up ≤ count_at bs at) × (up_to (count_at bs up) (λ k. eqb (code_at bs at k) (code_at bs up k)) ≡ true)
    passed_extends z =
        let b = and_parts (leb (count_at bs up) (count_at bs at)) (up_to (count_at bs up) (λ k. eqb (code_at bs at k) (code_at bs up k))) (and_parts (ltb (word_at bs at) c) (extends bs at up) (passed_parent z)).1 in
        (leb-true _ _ b.0, b.1)

    to_rule : ClassRule p c
    to_rule =
        record {
          few = omega (arith, count_said, passed_few);
          storable =
              λ k h.
              let m : k < count_at bs at = omega (arith, count_said) in
              moved _ _ _ _ (sym (class_count bs l)) (sym (field_view bs l c k here m)) (passed_storable k m);
          root =
              λ z.
              let b = and_parts (eqb (word_at bs at) 0) (eqb (count_at bs at) 0) (passed_root z) in
              (parent_said ∙ eqb-true _ _ b.0, count_said ∙ eqb-true _ _ b.1);
          lower = λ z. omega (arith, parent_said, passed_lower z);
          extends = λ z. omega (arith, count_said, parent_count (passed_lower z), (passed_extends z).0);
          inherits =
              λ z k h.
              let m : k < count_at bs up = omega (arith, parent_count (passed_lower z)) in
              let n : k < count_at bs at = omega (arith, (passed_extends z).0) in
              field_view bs l c k here n
              ∙ ap kind_of (eqb-true _ _ (up_to_at (λ j. eqb (code_at bs at j) (code_at bs up j)) (count_at bs up) k (passed_extends z).1 m))
              ∙ sym (parent_field (passed_lower z) k m);
        }

    to_right : ClassRight bs l c
    to_right =
        record {
          here = class_here bs at bytes within passed_few passed_unused ∙ ap class_bytes (sym (class_view bs l c here));
          rule = to_rule;
        }

  -- from the rule to the test
  module _ (r : ClassRight bs l c) where
    kept_few : count_at bs at ≤ 8
    kept_few = omega (arith, count_said, r.rule.few)

    kept_unused : (k : ℕ) → count_at bs at ≤ k → k < 8 → code_at bs at k ≡ 0
    kept_unused = unused_zero bs at bytes within kept_few (r.here ∙ ap class_bytes (class_view bs l c here))

    kept_field : (k : ℕ) → k < 8 → field_readable bs l.classes.count at k ≡ true
    kept_field k h =
        ⊎_elim
        (λ (m : k < count_at bs at).
        cond-true (ltb k (count_at bs at)) (storable l.classes.count (code_at bs at k)) (eqb (code_at bs at k) 0) (lt-ltb _ _ m)
        ∙ (decides_storable l.classes.count (code_at bs at k) few).1
        (moved _ _ _ _ (class_count bs l) (field_view bs l c k here m) (r.rule.storable k (omega (arith, count_said)))))
        (λ (m : count_at bs at ≤ k).
        cond-false (ltb k (count_at bs at)) (storable l.classes.count (code_at bs at k)) (eqb (code_at bs at k) 0) (le-ltb _ _ m)
        ∙ eq-eqb _ _ (kept_unused k m h))
        (cases_lt k (count_at bs at))

    kept_lower : 0 < c → word_at bs at < c
    kept_lower z = omega (arith, parent_said, r.rule.lower z)

    same_code : 0 < c → (k : ℕ) → k < count_at bs up → code_at bs at k ≡ code_at bs up k
    same_code z k m =
        let e = parent_count (kept_lower z) in
        let n : k < count_at bs at = omega (arith, count_said, e, r.rule.extends z) in
        sym (code_of_kind (code_at bs at k))
        ∙ ap kind_code (sym (field_view bs l c k here n) ∙ r.rule.inherits z k (omega (arith, e)) ∙ parent_field (kept_lower z) k m)
        ∙ code_of_kind (code_at bs up k)

    kept_descends : descends bs l.classes.start c ≡ true
    kept_descends =
        ⊎_elim
        (λ (z : c ≡ 0).
        cond-true (eqb c 0) (eqb (word_at bs at) 0 && eqb (count_at bs at) 0) (ltb (word_at bs at) c && extends bs at up) (eq-eqb c 0 z)
        ∙ and_from _ _ (eq-eqb _ _ (sym parent_said ∙ (r.rule.root z).0)) (eq-eqb _ _ (sym count_said ∙ (r.rule.root z).1)))
        (λ (ne : c ≡ 0 → ⊥).
        let z : 0 < c = omega (arith, ne) in
        cond-false (eqb c 0) (eqb (word_at bs at) 0 && eqb (count_at bs at) 0) (ltb (word_at bs at) c && extends bs at up) (ne_eqb c 0 ne)
        ∙ and_from (ltb (word_at bs at) c) (extends bs at up) (lt-ltb _ _ (kept_lower z))
        (and_from (leb (count_at bs up) (count_at bs at)) (up_to (count_at bs up) (λ k. eqb (code_at bs at k) (code_at bs up k)))
        (le-leb _ _ (omega (arith, count_said, parent_count (kept_lower z), r.rule.extends z)))
        (up_to_all (λ k. eqb (code_at bs at k) (code_at bs up k)) (count_at bs up) (λ k m. eq-eqb _ _ (same_code z k m)))))
        (cases_eq c 0)

    from_right : class_readable bs l.classes c ≡ true
    from_right =
        and_from (leb (count_at bs at) 8) (up_to 8 (field_readable bs l.classes.count at) && descends bs l.classes.start c) (le-leb _ _ kept_few)
        (and_from (up_to 8 (field_readable bs l.classes.count at)) (descends bs l.classes.start c)
        (up_to_all (field_readable bs l.classes.count at) 8 kept_field) kept_descends)

  pub class_decides : Decides (class_readable bs l.classes c) (ClassRight bs l c)
  class_decides = (to_right, from_right)
