-- What stands at each place of the parts that bytes say.
use Rattle.std.proofs.Common.{◌≡◌, ℕ, ◌+◌, ◌*◌, ◌<◌, ◌≤◌, ltb, List, length, get_or, Some, None, sym, ap, ◌∙◌, arith}
use Rattle.std.proofs.lemmas.Bool.{cond-true, cond-false, lt-ltb, le-ltb}
use Rattle.std.proofs.lemmas.List.FromFn.{length-map-range_with_len, get_or-map-range_with_len}
use Rattle.kinds.specs.declared.kind.Kind.TheVariants.{Int}
use Rattle.format.specs.declared.layout.Layout.{Layout}
use Rattle.format.specs.Bytes.{tabulate}
use Rattle.format.specs.Parts.{within, ClassParts, no_class, no_instruction, class_of, parent_of, field_count, field_of, slot_of, instruction_of}
use Rattle.format.specs.Decoding.{kind_at, class_at, instruction_at, parts_at}
use Rattle.format.specs.Tests.{count_at}
use Rattle.format.proofs.Bounds.{Bounds}

pub length_tabulate : {A : Type 0} (n : ℕ) (f : ℕ → A) → length (tabulate n f) ≡ n
length_tabulate n f = length-map-range_with_len f 0 n

pub get_d_tabulate : {A : Type 0} (n : ℕ) (f : ℕ → A) (d : A) (i : ℕ) → i < n → get_or (tabulate n f) i d ≡ f i
get_d_tabulate n f d i l = get_or-map-range_with_len f 0 n i i d l (omega arith)

-- what an accessor answers, within the table and past it
pub within_some : {A : Type 0} (i n : ℕ) (x y : A) → i < n → y ≡ x → Some y ≡ within i n x
within_some i n x y l e = ap Some e ∙ sym (cond-true (ltb i n) (Some x) None (lt-ltb i n l))

pub within_none : {A : Type 0} (i n : ℕ) (x : A) → n ≤ i → None ≡ within i n x
within_none i n x l = sym (cond-false (ltb i n) (Some x) None (le-ltb i n l))

module _ (bs : List ℕ) (l : Layout) where
  pub class_count : length (parts_at bs l).classes ≡ l.classes.count
  class_count = length_tabulate l.classes.count (λ i. class_at bs (l.classes.start + 19 * i))

  pub slot_count : length (parts_at bs l).slots ≡ l.slots.count
  slot_count = length_tabulate l.slots.count (λ i. kind_at bs (l.slots.start + 2 * i))

  pub code_count : length (parts_at bs l).code ≡ l.code.count
  code_count = length_tabulate l.code.count (λ i. instruction_at bs (l.code.start + 3 * i))

  pub class_view : (c : ℕ) → c < l.classes.count → class_of (parts_at bs l) c ≡ class_at bs (l.classes.start + 19 * c)
  class_view c h = get_d_tabulate l.classes.count (λ i. class_at bs (l.classes.start + 19 * i)) no_class c h

  pub slot_view : (i : ℕ) → i < l.slots.count → slot_of (parts_at bs l) i ≡ kind_at bs (l.slots.start + 2 * i)
  slot_view i h = get_d_tabulate l.slots.count (λ j. kind_at bs (l.slots.start + 2 * j)) Int i h

  pub instruction_view : (i : ℕ) → i < l.code.count → instruction_of (parts_at bs l) i ≡ instruction_at bs (l.code.start + 3 * i)
  instruction_view i h = get_d_tabulate l.code.count (λ j. instruction_at bs (l.code.start + 3 * j)) no_instruction i h

  pub field_count_view : (c : ℕ) → c < l.classes.count → field_count (parts_at bs l) c ≡ count_at bs (l.classes.start + 19 * c)
  field_count_view c h =
      ap (λ (k : ClassParts). length k.fields) (class_view c h)
      ∙ length_tabulate (count_at bs (l.classes.start + 19 * c)) (λ k. kind_at bs (l.classes.start + 19 * c + 3 + 2 * k))

  pub field_view : (c k : ℕ) → c < l.classes.count → k < count_at bs (l.classes.start + 19 * c) → field_of (parts_at bs l) c k ≡ kind_at bs (l.classes.start + 19 * c + 3 + 2 * k)
  field_view c k h m =
      ap (λ (x : ClassParts). get_or x.fields k Int) (class_view c h)
      ∙ get_d_tabulate (count_at bs (l.classes.start + 19 * c)) (λ j. kind_at bs (l.classes.start + 19 * c + 3 + 2 * j)) Int k m

  pub parents_lower : Bounds bs l → (c : ℕ) → 0 < c → c < length (parts_at bs l).classes → parent_of (parts_at bs l) c < c
  parents_lower b c p h =
      let k : c < l.classes.count = omega (arith, class_count) in
      omega (arith, b.lower_parent c p k, ap (λ (x : ClassParts). x.parent) (class_view c k))
