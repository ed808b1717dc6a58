-- Bytes that are the encoding of parts that keep the rules are right in every piece, and say those parts.
use Rattle.std.proofs.Common.{◌≡◌, ℕ, ◌+◌, ◌*◌, ◌/◌, ◌<◌, ◌≤◌, List, [], ◌++◌, length, get_or, take, sym, refl, ap, ◌∙◌, subst, mul-le-mul_left, mul-suc, arith}
use Rattle.std.specs.List.{flat_map}
use Rattle.std.proofs.lemmas.List.{append_assoc, append-nil, length-append, drop_at, take_at, ext_get_or}
use Rattle.kinds.specs.declared.kind.Kind.{Kind}
use Rattle.kinds.specs.declared.kind.Kind.TheVariants.{Int}
use Rattle.opcodes.specs.declared.opcode.Instruction.{Instruction}
use Rattle.format.specs.Bytes.{AllBytes, slice, tabulate}
use Rattle.format.specs.Parts.{ClassParts, Parts, no_class, no_instruction, class_of, slot_of, instruction_of}
use Rattle.format.specs.Encoding.{field, head_bytes, class_bytes, kind_bytes, instruction_bytes, encode}
use Rattle.format.specs.Rules.{ClassRule, SlotRule, CodeRule, Keeps}
use Rattle.format.specs.Decoding.{class_at, kind_at, instruction_at}
use Rattle.format.specs.Reading.{field_end, places_of, body_length}
use Rattle.format.specs.Stages.{layout_in, Passes}
use Rattle.format.specs.Right.{FieldAt, FrameRight, said, HeadRight, Sized, ClassesRight, SlotsRight, CodeIsRight}
use Rattle.format.specs.Meaning.{Encodes}
use Rattle.format.proofs.Slices.{byte_said, slice_slice, chunk_at, length_joined}
use Rattle.format.proofs.Words.{kind_of_code}
use Rattle.format.proofs.Views.{length_tabulate, get_d_tabulate}
use Rattle.format.proofs.Framing.{stands_framed, right_frame, field_body}
use Rattle.format.proofs.Sizes.{right_count, right_head}
use Rattle.format.proofs.Rightness.{classes_decide, slots_decide, code_decide}
use Rattle.format.proofs.Decoded.{kind_said, instruction_said, length_class, class_said}

same_parts : (p q : Parts) → p.depth ≡ q.depth → p.classes ≡ q.classes → p.slots ≡ q.slots → p.code ≡ q.code → p ≡ q
same_parts p q a b c d = made a b c d
  where
    made : {m n : ℕ} {xs ys : List ClassParts} {us vs : List Kind} {is js : List Instruction} → m ≡ n → xs ≡ ys → us ≡ vs → is ≡ js → ◌≡◌ {A = Parts} (record { depth = m; classes = xs; slots = us; code = is }) (record { depth = n; classes = ys; slots = vs; code = js })
    made e f g h = rw (e, f, g, h)

-- a field in the midst of bytes
pub record Stands (bs before body rest : List ℕ) (tag at : ℕ) : Type 0 where
  pub stands : FieldAt bs tag at (field_end bs at)
  pub contents : slice bs (at + 3) (body_length at (field_end bs at)) ≡ body
  pub size : body_length at (field_end bs at) ≡ length body
  pub after : bs ≡ (before ++ field tag body) ++ rest
  pub reach : length (before ++ field tag body) ≡ field_end bs at

stands_there : (bs before body rest : List ℕ) (tag at : ℕ) → bs ≡ before ++ (field tag body ++ rest) → length before ≡ at → Stands bs before body rest tag at
stands_there bs before body rest tag at h n =
    let len : length (field tag body) ≡ 3 + length body = omega arith in
    let there : FieldAt bs tag at (at + 3 + length body) = record {
      body = body;
      ends = refl;
      here =
          ap (λ xs. slice xs at (3 + length body)) h
          ∙ ap (take (3 + length body)) (drop_at before (field tag body ++ rest) at n)
          ∙ take_at (field tag body) rest (3 + length body) len;
    } in
    let e : field_end bs at ≡ at + 3 + length body = (stands_framed bs tag at _ there).1 in
    record {
      stands = subst (λ (k : ℕ). FieldAt bs tag at k) (sym e) there;
      contents = ap (λ k. slice bs (at + 3) (body_length at k)) e ∙ field_body bs tag at _ there;
      size = omega (arith, e);
      after = h ∙ sym (append_assoc before (field tag body) rest);
      reach = length-append before (field tag body) ∙ omega (arith, e, n, len);
    }

-- a table whose records have been found, one by one, is the list of them
table_said : {A : Type 0} (n : ℕ) (g : ℕ → A) (d : A) (xs : List A) → length xs ≡ n → ((i : ℕ) → i < n → g i ≡ get_or xs i d) → tabulate n g ≡ xs
table_said n g d xs len each =
    ext_get_or d (tabulate n g) xs (length_tabulate n g ∙ sym len)
    (λ i l.
    let m : i < n = omega (arith, length_tabulate n g) in
    get_d_tabulate n g d i m ∙ each i m)

-- a table that is found in a field: its size, how many records it has, and where each lies
pub record Found {A : Type 0} (bs : List ℕ) (at next w most : ℕ) (f : A → List ℕ) (d : A) (xs : List A) : Type 0 where
  pub is_sized : Sized w most (body_length at next)
  pub count : length xs ≡ body_length at next / w
  pub record_at : (i : ℕ) → i < body_length at next / w → slice bs (at + 3 + w * i) w ≡ f (get_or xs i d)

found : {A : Type 0} (bs : List ℕ) (at next w most : ℕ) (f : A → List ℕ) (d : A) (xs : List A) → 0 < w → 0 < length xs → length xs ≤ most → ((j : ℕ) → j < length xs → length (f (get_or xs j d)) ≡ w) → slice bs (at + 3) (body_length at next) ≡ flat_map f xs → body_length at next ≡ length (flat_map f xs) → Found bs at next w most f d xs
found bs at next w most f d xs p some few each here size =
    let total : body_length at next ≡ w * length xs = size ∙ length_joined f w d xs each in
    let s : Sized w most (body_length at next) = record { count = length xs; size = total; some = some; few = few } in
    let n : length xs ≡ body_length at next / w = sym (right_count w most (body_length at next) p s) in
    record {
      is_sized = s;
      count = n;
      record_at =
          λ i l.
          let m : i < length xs = omega (arith, n) in
          let fits : w * i + w ≤ body_length at next = omega (arith, total, mul-suc w i, mul-le-mul_left w m) in
          sym (slice_slice bs (at + 3) (body_length at next) (w * i) w fits) ∙ ap (λ ys. slice ys (w * i) w) here ∙ chunk_at f w d xs each i m;
    }

module _ (bs : List ℕ) (bytes : AllBytes bs) (q : Parts) (h : bs ≡ encode q) (k : Keeps q) where
  b₁ : List ℕ
  b₁ = head_bytes q.depth

  b₂ : List ℕ
  b₂ = flat_map class_bytes q.classes

  b₃ : List ℕ
  b₃ = flat_map kind_bytes q.slots

  b₄ : List ℕ
  b₄ = flat_map instruction_bytes q.code

  one : Stands bs [] b₁ (field 2 b₂ ++ (field 3 b₃ ++ field 4 b₄)) 1 0
  unfolding b₁ b₂ b₃ b₄
  one = stands_there bs [] b₁ (field 2 b₂ ++ (field 3 b₃ ++ field 4 b₄)) 1 0 h refl

  two : Stands bs ([] ++ field 1 b₁) b₂ (field 3 b₃ ++ field 4 b₄) 2 (places_of bs).classes
  two = stands_there bs ([] ++ field 1 b₁) b₂ (field 3 b₃ ++ field 4 b₄) 2 (places_of bs).classes one.after one.reach

  three : Stands bs (([] ++ field 1 b₁) ++ field 2 b₂) b₃ (field 4 b₄) 3 (places_of bs).slots
  three = stands_there bs (([] ++ field 1 b₁) ++ field 2 b₂) b₃ (field 4 b₄) 3 (places_of bs).slots two.after two.reach

  four : Stands bs ((([] ++ field 1 b₁) ++ field 2 b₂) ++ field 3 b₃) b₄ [] 4 (places_of bs).code
  four =
      stands_there bs ((([] ++ field 1 b₁) ++ field 2 b₂) ++ field 3 b₃) b₄ [] 4 (places_of bs).code
      (three.after ∙ ap (λ xs. ((([] ++ field 1 b₁) ++ field 2 b₂) ++ field 3 b₃) ++ xs) (sym (append-nil (field 4 b₄)))) three.reach

  before_end : List ℕ
  before_end = (([] ++ field 1 b₁) ++ field 2 b₂) ++ field 3 b₃

  frame : FrameRight bs
  unfolding before_end
  frame =
      record {
        head = one.stands;
        classes = two.stands;
        slots = three.stands;
        code = four.stands;
        whole = sym four.reach ∙ ap length (sym (append-nil (before_end ++ field 4 b₄)) ∙ sym four.after);
      }

  depth_said : (said bs).depth ≡ q.depth
  unfolding b₁
  depth_said =
      byte_said bs b₁ 3 (body_length 0 (places_of bs).classes) 1 (omega (arith, one.size)) one.contents

  head : HeadRight bs
  unfolding b₁
  head =
      record { here = one.contents ∙ ap head_bytes (sym depth_said); shallow = omega (arith, depth_said, k.shallow) }

  classes : Found bs (places_of bs).classes (places_of bs).slots 19 256 class_bytes no_class q.classes
  unfolding b₂
  classes =
      found bs (places_of bs).classes (places_of bs).slots 19 256 class_bytes no_class q.classes (omega arith) k.some_classes k.most_classes
      (λ j l. length_class (class_of q j) (k.classes_keep j l).few) two.contents two.size

  slots : Found bs (places_of bs).slots (places_of bs).code 2 32 kind_bytes Int q.slots
  unfolding b₃
  slots =
      found bs (places_of bs).slots (places_of bs).code 2 32 kind_bytes Int q.slots (omega arith) k.some_slots k.most_slots
      (λ j l. refl) three.contents three.size

  code : Found bs (places_of bs).code (places_of bs).end 3 1024 instruction_bytes no_instruction q.code
  unfolding b₄
  code =
      found bs (places_of bs).code (places_of bs).end 3 1024 instruction_bytes no_instruction q.code (omega arith) k.some_code k.most_code
      (λ j l. refl) four.contents four.size

  classes_said : (said bs).classes ≡ q.classes
  classes_said =
      table_said (layout_in bs).classes.count (λ i. class_at bs ((places_of bs).classes + 3 + 19 * i)) no_class q.classes classes.count
      (λ i l.
      let r : ClassRule q i = k.classes_keep i (omega (arith, classes.count)) in
      class_said bs ((places_of bs).classes + 3 + 19 * i) (class_of q i) (classes.record_at i l) r.few
      (λ j m. kind_of_code (length q.classes) (get_or (class_of q i).fields j Int) k.most_classes (r.storable j m)))

  slots_said : (said bs).slots ≡ q.slots
  slots_said =
      table_said (layout_in bs).slots.count (λ i. kind_at bs ((places_of bs).slots + 3 + 2 * i)) Int q.slots slots.count
      (λ i l.
      let r : SlotRule q i = k.slots_keep i (omega (arith, slots.count)) in
      kind_said bs ((places_of bs).slots + 3 + 2 * i) (slot_of q i) (kind_of_code (length q.classes) (slot_of q i) k.most_classes r.storable) (slots.record_at i l))

  code_said : (said bs).code ≡ q.code
  code_said =
      table_said (layout_in bs).code.count (λ i. instruction_at bs ((places_of bs).code + 3 + 3 * i)) no_instruction q.code code.count
      (λ i l. instruction_said bs ((places_of bs).code + 3 + 3 * i) (instruction_of q i) (code.record_at i l))

  pub parts_said : said bs ≡ q
  parts_said = same_parts (said bs) q depth_said classes_said slots_said code_said

  -- what holds of the parts holds of those that are said
  classes_right : ClassesRight bs
  classes_right =
      record {
        size_right = classes.is_sized;
        each =
            λ i l.
            record {
              here = classes.record_at i l ∙ ap (λ p. class_bytes (class_of p i)) (sym parts_said);
              rule = subst (λ (p : Parts). ClassRule p i) (sym parts_said) (k.classes_keep i (omega (arith, classes.count)));
            };
      }

  slots_right : SlotsRight bs
  slots_right =
      record {
        size_right = slots.is_sized;
        each =
            λ i l.
            record {
              here = slots.record_at i l ∙ ap (λ p. kind_bytes (slot_of p i)) (sym parts_said);
              rule = subst (λ (p : Parts). SlotRule p i) (sym parts_said) (k.slots_keep i (omega (arith, slots.count)));
            };
      }

  code_right : CodeIsRight bs
  code_right =
      record {
        size_right = code.is_sized;
        each =
            λ i l.
            record {
              here = code.record_at i l ∙ ap (λ p. instruction_bytes (instruction_of p i)) (sym parts_said);
              rule = subst (λ (p : Parts). CodeRule p i) (sym parts_said) (k.code_keeps i (omega (arith, code.count)));
            };
      }

  pub all_pass : Passes bs
  all_pass =
      let f = right_frame bs frame in
      record {
        framed = f;
        head = right_head bs f head;
        classes = (classes_decide bs bytes f).1 classes_right;
        slots = (slots_decide bs bytes f classes.is_sized).1 slots_right;
        code = (code_decide bs bytes f).1 code_right;
      }

pub encodes_passes : (bs : List ℕ) (q : Parts) → AllBytes bs → Encodes bs q → Passes bs × (said bs ≡ q)
encodes_passes bs q bytes e = (all_pass bs bytes q e.written e.keeps, parts_said bs bytes q e.written e.keeps)
