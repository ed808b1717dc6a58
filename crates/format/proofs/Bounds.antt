-- What every read unit's layout keeps: its tables lie within the bytes, and the rules that later code leans on.
use Rattle.std.proofs.Common.{◌≡◌, ℕ, ◌+◌, ◌-◌, ◌*◌, ◌/◌, ◌%◌, ◌<◌, ◌≤◌, true, false, ◌&&◌, eqb, ltb, leb, List, length, sym, ◌∙◌, subst, arith}
use native.Mathlib.Nat.{mul-div-le}
use Rattle.std.proofs.lemmas.Bool.{and_parts, leb-true, ltb-true, eqb-true, ne_eqb, cond-false}
use Rattle.format.specs.declared.layout.Layout.{Layout}
use Rattle.format.specs.declared.layout.Span.{Span}
use Rattle.format.specs.Bytes.{byte_at, word_at, up_to}
use Rattle.format.specs.Tests.{count_at, field_readable, descends, class_readable, instruction_readable}
use Rattle.format.specs.Reading.{framed_at, field_end, places_of, Framed, sized, reading, spread, layout_numbers}
use Rattle.format.specs.Stages.{layout_in, FramePasses, Passes}
use Rattle.format.proofs.Passing.{kept_passes}
use Rattle.format.proofs.Sizes.{whole_records, some_records}

-- a field that stands whole ends within the bytes
pub framed_within : (bs : List ℕ) (tag at : ℕ) → framed_at bs tag at ≡ true → field_end bs at ≤ length bs
framed_within bs tag at h =
    leb-true _ _ (and_parts (eqb (byte_at bs at) tag) _ (and_parts (leb (at + 3) (length bs)) _ h).1).1

pub places_framed : (bs : List ℕ) → FramePasses bs → Framed (length bs) (places_of bs)
places_framed bs p =
    record { head = omega arith; classes = omega arith; slots = omega arith; code = omega arith; whole = p.whole }

-- the records of a field end where the field does, or before
within : (w at next n : ℕ) → at + 3 ≤ next → next ≤ n → at + 3 + w * ((next - (at + 3)) / w) ≤ n
within w at next n h k = omega (arith, mul-div-le (next - (at + 3)) w)

-- a table whose size is right has some records, and no more than it may
table_some : (w most n : ℕ) → sized w most n ≡ true → 0 < n / w
table_some w most n h =
    let a = and_parts (ltb 0 n) (eqb (n % w) 0 && leb (n / w) most) h in
    some_records w n (ltb-true 0 n a.0) (whole_records w n (eqb-true _ _ (and_parts (eqb (n % w) 0) (leb (n / w) most) a.1).0))

table_few : (w most n : ℕ) → sized w most n ≡ true → n / w ≤ most
table_few w most n h = leb-true _ _ (and_parts (eqb (n % w) 0) _ (and_parts (ltb 0 n) _ h).1).1

pub record Bounds (bs : List ℕ) (l : Layout) : Type 0 where
  pub classes_within : l.classes.start + 19 * l.classes.count ≤ length bs
  pub slots_within : l.slots.start + 2 * l.slots.count ≤ length bs
  pub code_within : l.code.start + 3 * l.code.count ≤ length bs
  pub some_classes : 0 < l.classes.count
  pub few_classes : l.classes.count ≤ 256
  pub some_slots : 0 < l.slots.count
  pub few_slots : l.slots.count ≤ 32
  pub some_code : 0 < l.code.count
  pub few_code : l.code.count ≤ 1024
  pub shallow : l.depth ≤ 16
  pub few_fields : (c : ℕ) → c < l.classes.count → count_at bs (l.classes.start + 19 * c) ≤ 8
  pub lower_parent : (c : ℕ) → 0 < c → c < l.classes.count → word_at bs (l.classes.start + 19 * c) < c
  pub opcodes_exist : (i : ℕ) → i < l.code.count → byte_at bs (l.code.start + 3 * i) < 15

class_few : (bs : List ℕ) (s : Span) (c : ℕ) → class_readable bs s c ≡ true → count_at bs (s.start + 19 * c) ≤ 8
class_few bs s c h = leb-true _ _ (and_parts _ _ h).0

class_lower : (bs : List ℕ) (s : Span) (c : ℕ) → 0 < c → class_readable bs s c ≡ true → word_at bs (s.start + 19 * c) < c
class_lower bs s c p h =
    let d : descends bs s.start c ≡ true = (and_parts (up_to 8 (field_readable bs s.count (s.start + 19 * c))) (descends bs s.start c) (and_parts (leb (count_at bs (s.start + 19 * c)) 8) _ h).1).1 in
    let z : eqb c 0 ≡ false = ne_eqb c 0 (λ e. omega arith) in
    ltb-true _ _ (and_parts _ _ (sym (cond-false (eqb c 0) _ _ z) ∙ d)).0

instruction_exists : (bs : List ℕ) (l : Layout) (i : ℕ) → instruction_readable bs l i ≡ true → byte_at bs (l.code.start + 3 * i) < 15
instruction_exists bs l i h = ltb-true _ _ (and_parts _ _ h).0

pub passes_bounds : (bs : List ℕ) → Passes bs → Bounds bs (layout_in bs)
passes_bounds bs p =
    let f : Framed (length bs) (places_of bs) = places_framed bs p.framed in
    record {
      classes_within = within 19 _ _ _ f.classes (omega arith);
      slots_within = within 2 _ _ _ f.slots (omega arith);
      code_within = within 3 _ _ _ f.code (omega arith);
      some_classes = table_some 19 256 _ p.classes.are_sized;
      few_classes = table_few 19 256 _ p.classes.are_sized;
      some_slots = table_some 2 32 _ p.slots.are_sized;
      few_slots = table_few 2 32 _ p.slots.are_sized;
      some_code = table_some 3 1024 _ p.code.are_sized;
      few_code = table_few 3 1024 _ p.code.are_sized;
      shallow = leb-true _ _ (and_parts (eqb (byte_at bs 3) 1) _ (and_parts (eqb (places_of bs).classes 5) _ p.head).1).1;
      few_fields = λ c l. class_few bs (layout_in bs).classes c (p.classes.each c l);
      lower_parent = λ c z l. class_lower bs (layout_in bs).classes c z (p.classes.each c l);
      opcodes_exist = λ i l. instruction_exists bs (layout_in bs) i (p.code.each i l);
    }

pub kept_bounds : (bs : List ℕ) (l : Layout) → layout_numbers (reading bs) ≡ spread l → Bounds bs l
kept_bounds bs l h =
    let k = kept_passes bs l h in
    subst (λ (m : Layout). Bounds bs m) k.1 (passes_bounds bs k.0)
