-- A slot passes its test exactly if it is right.
use Rattle.std.proofs.Common.{◌≡◌, ℕ, ◌+◌, ◌*◌, ◌<◌, ◌≤◌, eqb, ltb, List, ◌∷◌, length, Decides, sym, ap, ◌∙◌, subst, ⊎_elim, arith}
use Rattle.std.proofs.lemmas.Bool.{cond-true, cond-false, eq-eqb, ne_eqb, cases_eq}
use Rattle.kinds.specs.declared.kind.Kind.{Kind}
use Rattle.kinds.specs.Codes.{kind_of}
use Rattle.format.specs.declared.layout.Layout.{Layout}
use Rattle.format.specs.Bytes.{AllBytes, byte_at, word_at, word, slice}
use Rattle.format.specs.Parts.{slot_of}
use Rattle.format.specs.Encoding.{kind_bytes}
use Rattle.format.specs.Rules.{Storable, IsClass, SlotRule}
use Rattle.format.specs.Decoding.{kind_at, parts_at}
use Rattle.format.specs.Tests.{storable, slot_readable}
use Rattle.format.specs.Right.{SlotRight}
use Rattle.format.proofs.Slices.{slice_cons}
use Rattle.format.proofs.Words.{word_of, code_of_kind}
use Rattle.format.proofs.Views.{class_count, slot_view}
use Rattle.format.proofs.Storing.{moved, decides_storable, decides_class}

-- the two bytes at a place are those of the kind that they say
pub kind_here : (bs : List ℕ) (at : ℕ) → AllBytes bs → at + 2 ≤ length bs → slice bs at 2 ≡ kind_bytes (kind_at bs at)
kind_here bs at bytes h =
    slice_cons bs at 1 (omega arith)
    ∙ ap (λ ys. byte_at bs at ∷ ys) (slice_cons bs (at + 1) 0 (omega arith))
    ∙ sym (word_of (byte_at bs at) (byte_at bs (at + 1)) (bytes (at + 1) (omega arith)))
    ∙ ap word (sym (code_of_kind (word_at bs at)))

module _ (bs : List ℕ) (l : Layout) (i : ℕ) (bytes : AllBytes bs) (few : l.classes.count ≤ 256) (here : i < l.slots.count) (fits : l.slots.start + 2 * l.slots.count ≤ length bs) where
  at : ℕ
  at = l.slots.start + 2 * i

  code : ℕ
  unfolding at
  code = word_at bs at

  view : kind_of code ≡ slot_of (parts_at bs l) i
  unfolding at code
  view = sym (slot_view bs l i here)

  count : l.classes.count ≡ length (parts_at bs l).classes
  count = sym (class_count bs l)

  holds : Storable l.classes.count (kind_of code) → Storable (length (parts_at bs l).classes) (slot_of (parts_at bs l) i)
  holds = moved _ _ (kind_of code) (slot_of (parts_at bs l) i) count view

  holds_back : Storable (length (parts_at bs l).classes) (slot_of (parts_at bs l) i) → Storable l.classes.count (kind_of code)
  holds_back = moved _ _ (slot_of (parts_at bs l) i) (kind_of code) (sym count) (sym view)

  bytes_right : slice bs (l.slots.start + 2 * i) 2 ≡ kind_bytes (slot_of (parts_at bs l) i)
  bytes_right = kind_here bs (l.slots.start + 2 * i) bytes (omega arith) ∙ ap kind_bytes (sym (slot_view bs l i here))

  rule_first : i ≡ 0 → Decides (ltb code l.classes.count) (SlotRule (parts_at bs l) i)
  rule_first z =
      let d = decides_class l.classes.count code few in (
        λ t. record { storable = holds (d.0 t).0; vessel = λ _. subst (λ (x : Kind). IsClass x) view (d.0 t).1 },
        λ r. d.1 (holds_back r.storable, subst (λ (x : Kind). IsClass x) (sym view) (r.vessel z)),
      )

  rule_later : (i ≡ 0 → ⊥) → Decides (storable l.classes.count code) (SlotRule (parts_at bs l) i)
  rule_later z =
      let d = decides_storable l.classes.count code few in
      (λ t. record { storable = holds (d.0 t); vessel = λ e. absurd (z e) }, λ r. d.1 (holds_back r.storable))

  pub slot_decides : Decides (slot_readable bs l.classes.count l.slots i) (SlotRight bs l i)
  unfolding at code
  slot_decides =
      ⊎_elim
      (λ (z : i ≡ 0).
      let c = cond-true (eqb i 0) (ltb code l.classes.count) (storable l.classes.count code) (eq-eqb i 0 z) in
      (λ t. record { here = bytes_right; rule = (rule_first z).0 (sym c ∙ t) }, λ r. c ∙ (rule_first z).1 r.rule))
      (λ (z : i ≡ 0 → ⊥).
      let c = cond-false (eqb i 0) (ltb code l.classes.count) (storable l.classes.count code) (ne_eqb i 0 z) in
      (λ t. record { here = bytes_right; rule = (rule_later z).0 (sym c ∙ t) }, λ r. c ∙ (rule_later z).1 r.rule))
      (cases_eq i 0)
