-- Bytes that are right in every piece are the encoding of what they say, and that keeps the rules.
use Rattle.std.proofs.Common.{◌≡◌, ℕ, ◌+◌, ◌-◌, ◌*◌, ◌/◌, ◌<◌, ◌≤◌, List, ◌++◌, length, sym, ap, ◌∙◌, arith}
use Rattle.std.specs.List.{flat_map, range_with_len}
use Rattle.opcodes.specs.declared.opcode.Instruction.{Instruction}
use Rattle.format.specs.Bytes.{AllBytes, slice, tabulate}
use Rattle.format.specs.Encoding.{field, head_bytes, class_bytes, kind_bytes, instruction_bytes, encode}
use Rattle.format.specs.Rules.{Keeps}
use Rattle.format.specs.Decoding.{class_at, kind_at, instruction_at}
use Rattle.format.specs.Reading.{places_of, Framed, body_length}
use Rattle.format.specs.Stages.{layout_in, Passes}
use Rattle.format.specs.Right.{FieldAt, FrameRight, said, HeadRight, Sized, ClassesRight, SlotsRight, CodeIsRight}
use Rattle.format.specs.Meaning.{Encodes}
use Rattle.format.proofs.Slices.{slice_append, slice_whole, chunks, joined_map}
use Rattle.format.proofs.Words.{word_below}
use Rattle.format.proofs.Views.{class_count, slot_count, code_count, class_view, slot_view, instruction_view}
use Rattle.format.proofs.Framing.{field_body, frame_right, right_frame}
use Rattle.format.proofs.Bounds.{places_framed}
use Rattle.format.proofs.Sizes.{right_count, head_right}
use Rattle.format.proofs.Rightness.{classes_decide, slots_decide, code_decide}

-- the bytes from a place to the end, cut at a place between
cut : (bs : List ℕ) (at next end : ℕ) → at ≤ next → next ≤ end → slice bs at (end - at) ≡ slice bs at (next - at) ++ slice bs next (end - next)
cut bs at next end h k =
    let s : end - at ≡ (next - at) + (end - next) = omega arith in
    let e : at + (next - at) ≡ next = omega arith in
    ap (slice bs at) s ∙ slice_append bs at (next - at) (end - next) ∙ ap (λ m. slice bs at (next - at) ++ slice bs m (end - next)) e

-- a field that stands at a place is its bytes up to the next
stands_whole : (bs : List ℕ) (tag at next : ℕ) → FieldAt bs tag at next → slice bs at (next - at) ≡ field tag (slice bs (at + 3) (body_length at next))
stands_whole bs tag at next f =
    let s : next - at ≡ 3 + length f.body = omega (arith, f.ends) in
    ap (slice bs at) s ∙ f.here ∙ ap (field tag) (sym (field_body bs tag at next f))

-- the records of a table, one after another
table_body : {A : Type 0} (bs : List ℕ) (start w n size : ℕ) (f : A → List ℕ) (g : ℕ → A) → size ≡ w * n → ((i : ℕ) → i < n → slice bs (start + w * i) w ≡ f (g i)) → slice bs start size ≡ flat_map f (tabulate n g)
table_body bs start w n size f g e each =
    let z : start ≡ start + w * 0 = omega (arith, native.Mathlib.Nat.mul-zero w) in
    ap (slice bs start) e ∙ ap (λ k. slice bs k (w * n)) z
    ∙ chunks bs w start (λ i. f (g i)) 0 n (λ i _ l. each i (omega arith))
    ∙ sym (joined_map f g (range_with_len 0 n))

-- how many bytes a table of the right size has
table_size : (w most at next : ℕ) → 0 < w → Sized w most (body_length at next) → body_length at next ≡ w * (body_length at next / w)
table_size w most at next p s = s.size ∙ ap (λ k. w * k) (sym (right_count w most (body_length at next) p s))

module _ (bs : List ℕ) (bytes : AllBytes bs) (f : FrameRight bs) (h : HeadRight bs) (c : ClassesRight bs) (s : SlotsRight bs) (k : CodeIsRight bs) where
  order : Framed (length bs) (places_of bs)
  order = places_framed bs (right_frame bs f)

  classes_body : slice bs ((places_of bs).classes + 3) (body_length (places_of bs).classes (places_of bs).slots) ≡ flat_map class_bytes (said bs).classes
  classes_body =
      table_body bs ((places_of bs).classes + 3) 19 (layout_in bs).classes.count _ class_bytes (λ i. class_at bs ((places_of bs).classes + 3 + 19 * i))
      (table_size 19 256 (places_of bs).classes (places_of bs).slots (omega arith) c.size_right)
      (λ i l. (c.each i l).here ∙ ap class_bytes (class_view bs (layout_in bs) i l))

  slots_body : slice bs ((places_of bs).slots + 3) (body_length (places_of bs).slots (places_of bs).code) ≡ flat_map kind_bytes (said bs).slots
  slots_body =
      table_body bs ((places_of bs).slots + 3) 2 (layout_in bs).slots.count _ kind_bytes (λ i. kind_at bs ((places_of bs).slots + 3 + 2 * i))
      (table_size 2 32 (places_of bs).slots (places_of bs).code (omega arith) s.size_right)
      (λ i l. (s.each i l).here ∙ ap kind_bytes (slot_view bs (layout_in bs) i l))

  code_body : slice bs ((places_of bs).code + 3) (body_length (places_of bs).code (places_of bs).end) ≡ flat_map instruction_bytes (said bs).code
  code_body =
      table_body bs ((places_of bs).code + 3) 3 (layout_in bs).code.count _ instruction_bytes (λ i. instruction_at bs ((places_of bs).code + 3 + 3 * i))
      (table_size 3 1024 (places_of bs).code (places_of bs).end (omega arith) k.size_right)
      (λ i l. (k.each i l).here ∙ ap instruction_bytes (instruction_view bs (layout_in bs) i l))

  written : bs ≡ encode (said bs)
  written =
      let e : length bs ≡ (places_of bs).end - 0 = omega (arith, order.whole) in
      sym (slice_whole bs) ∙ ap (slice bs 0) e
      ∙ cut bs 0 (places_of bs).classes (places_of bs).end (omega arith) (omega (arith, order))
      ∙ ap (λ x. x ++ slice bs (places_of bs).classes ((places_of bs).end - (places_of bs).classes)) (stands_whole bs 1 0 (places_of bs).classes f.head ∙ ap (field 1) h.here)
      ∙ ap (λ x. field 1 (head_bytes (said bs).depth) ++ x)
      (cut bs (places_of bs).classes (places_of bs).slots (places_of bs).end (omega (arith, order)) (omega (arith, order))
      ∙ ap (λ x. x ++ slice bs (places_of bs).slots ((places_of bs).end - (places_of bs).slots)) (stands_whole bs 2 (places_of bs).classes (places_of bs).slots f.classes ∙ ap (field 2) classes_body)
      ∙ ap (λ x. field 2 (flat_map class_bytes (said bs).classes) ++ x)
      (cut bs (places_of bs).slots (places_of bs).code (places_of bs).end (omega (arith, order)) (omega (arith, order))
      ∙ ap (λ x. x ++ slice bs (places_of bs).code ((places_of bs).end - (places_of bs).code)) (stands_whole bs 3 (places_of bs).slots (places_of bs).code f.slots ∙ ap (field 3) slots_body)
      ∙ ap (λ x. field 3 (flat_map kind_bytes (said bs).slots) ++ x) (stands_whole bs 4 (places_of bs).code (places_of bs).end f.code ∙ ap (field 4) code_body)))

  within_code : (i : ℕ) → i < (layout_in bs).code.count → (places_of bs).code + 3 + 3 * i + 3 ≤ length bs
  within_code i l = omega (arith, order, native.Mathlib.Nat.mul-div-le (body_length (places_of bs).code (places_of bs).end) 3)

  keeps : Keeps (said bs)
  keeps =
      record {
        shallow = h.shallow;
        some_classes = omega (arith, class_count bs (layout_in bs), right_count 19 256 _ (omega arith) c.size_right, c.size_right.some);
        most_classes = omega (arith, class_count bs (layout_in bs), right_count 19 256 _ (omega arith) c.size_right, c.size_right.few);
        classes_keep = λ i l. (c.each i (omega (arith, class_count bs (layout_in bs)))).rule;
        some_slots = omega (arith, slot_count bs (layout_in bs), right_count 2 32 _ (omega arith) s.size_right, s.size_right.some);
        most_slots = omega (arith, slot_count bs (layout_in bs), right_count 2 32 _ (omega arith) s.size_right, s.size_right.few);
        slots_keep = λ i l. (s.each i (omega (arith, slot_count bs (layout_in bs)))).rule;
        some_code = omega (arith, code_count bs (layout_in bs), right_count 3 1024 _ (omega arith) k.size_right, k.size_right.some);
        most_code = omega (arith, code_count bs (layout_in bs), right_count 3 1024 _ (omega arith) k.size_right, k.size_right.few);
        code_keeps = λ i l. (k.each i (omega (arith, code_count bs (layout_in bs)))).rule;
        operands_fit =
            λ i l.
            let m : i < (layout_in bs).code.count = omega (arith, code_count bs (layout_in bs)) in
            let w = within_code i m in
            omega (
              arith,
              ap (λ (x : Instruction). x.operand) (instruction_view bs (layout_in bs) i m),
              word_below bs ((places_of bs).code + 3 + 3 * i + 1) (bytes ((places_of bs).code + 3 + 3 * i + 1) (omega arith)) (bytes ((places_of bs).code + 3 + 3 * i + 1 + 1) (omega arith)),
            );
      }

pub passes_encodes : (bs : List ℕ) → AllBytes bs → Passes bs → Encodes bs (said bs)
passes_encodes bs bytes p =
    let f = frame_right bs bytes p.framed in
    let h = head_right bs p.framed p.head in
    let c = (classes_decide bs bytes p.framed).0 p.classes in
    let s = (slots_decide bs bytes p.framed c.size_right).0 p.slots in
    let k = (code_decide bs bytes p.framed).0 p.code in
    record { written = written bs bytes f h c s k; keeps = keeps bs bytes f h c s k }
