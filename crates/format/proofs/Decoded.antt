-- Bytes that are the encoding of a record say that record.
use Rattle.std.proofs.Common.{◌≡◌, ℕ, suc, ◌+◌, ◌-◌, ◌*◌, ◌<◌, ◌≤◌, List, ◌++◌, length, get_or, take, drop, replicate, sym, refl, ap, ◌∙◌, arith}
use Rattle.std.specs.List.{flat_map}
use Rattle.std.proofs.lemmas.List.{drop-append-le, take-append-le, length-drop, length-append, length-replicate, ext_get_or}
use Rattle.kinds.specs.declared.kind.Kind.{Kind}
use Rattle.kinds.specs.declared.kind.Kind.TheVariants.{Int}
use Rattle.kinds.specs.Codes.{kind_of, kind_code}
use Rattle.opcodes.specs.declared.opcode.Instruction.{Instruction}
use Rattle.opcodes.specs.declared.opcode.Opcode.{Opcode}
use Rattle.opcodes.specs.Numbers.{opcode_number}
use Rattle.opcodes.specs.Table.{opcode_at}
use Rattle.opcodes.proofs.TableRules.{at_number}
use Rattle.format.specs.Bytes.{byte_at, word_at, slice, tabulate}
use Rattle.format.specs.Parts.{ClassParts}
use Rattle.format.specs.Encoding.{class_bytes, kind_bytes, instruction_bytes}
use Rattle.format.specs.Decoding.{kind_at, class_at, instruction_at}
use Rattle.format.specs.Tests.{count_at}
use Rattle.format.proofs.Slices.{byte_said, first_said, slice_slice, chunk_at, length_joined}
use Rattle.format.proofs.Words.{word_said}
use Rattle.format.proofs.Views.{length_tabulate, get_d_tabulate}

pub kind_said : (bs : List ℕ) (at : ℕ) (k : Kind) → kind_of (kind_code k) ≡ k → slice bs at 2 ≡ kind_bytes k → kind_at bs at ≡ k
kind_said bs at k e h = ap kind_of (word_said bs at (kind_code k) h) ∙ e

same_instruction : (o p : Opcode) (m n : ℕ) → o ≡ p → m ≡ n → ◌≡◌ {A = Instruction} (record { opcode = o; operand = m }) (record { opcode = p; operand = n })
same_instruction o p m n e f = rw (e, f)

pub instruction_said : (bs : List ℕ) (at : ℕ) (x : Instruction) → slice bs at 3 ≡ instruction_bytes x → instruction_at bs at ≡ x
instruction_said bs at x h =
    let o : byte_at bs at ≡ opcode_number x.opcode = first_said bs (instruction_bytes x) at 3 (omega arith) h in
    same_instruction _ _ _ _ (ap opcode_at o ∙ at_number x.opcode)
    (word_said bs (at + 1) x.operand (sym (slice_slice bs at 3 1 2 (omega arith)) ∙ ap (λ xs. slice xs 1 2) h))

kinds_length : (ks : List Kind) → length (flat_map kind_bytes ks) ≡ 2 * length ks
kinds_length ks = length_joined kind_bytes 2 Int ks (λ j l. refl)

pub length_class : (x : ClassParts) → length x.fields ≤ 8 → length (class_bytes x) ≡ 19
length_class x h =
    omega (
      arith,
      length-append (flat_map kind_bytes x.fields) (replicate (2 * (8 - length x.fields)) 0),
      kinds_length x.fields,
      length-replicate {A = ℕ} (2 * (8 - length x.fields)) 0,
    )

-- kind k of kinds that are followed by more
kind_chunk : (ks : List Kind) (zs : List ℕ) (k : ℕ) → k < length ks → slice (flat_map kind_bytes ks ++ zs) (2 * k) 2 ≡ kind_bytes (get_or ks k Int)
kind_chunk ks zs k h =
    ap (take 2) (drop-append-le (2 * k) (flat_map kind_bytes ks) zs (omega (arith, kinds_length ks)))
    ∙ take-append-le 2 (drop (2 * k) (flat_map kind_bytes ks)) zs (omega (arith, kinds_length ks, length-drop (2 * k) (flat_map kind_bytes ks)))
    ∙ chunk_at kind_bytes 2 Int ks (λ j l. refl) k h

same_class : (m n : ℕ) (xs ys : List Kind) → m ≡ n → xs ≡ ys → ◌≡◌ {A = ClassParts} (record { parent = m; fields = xs }) (record { parent = n; fields = ys })
same_class m n xs ys e f = rw (e, f)

module _ (bs : List ℕ) (at : ℕ) (x : ClassParts) (h : slice bs at 19 ≡ class_bytes x) (few : length x.fields ≤ 8) (survive : (k : ℕ) → k < length x.fields → kind_of (kind_code (get_or x.fields k Int)) ≡ get_or x.fields k Int) where
  count_said : count_at bs at ≡ length x.fields
  count_said = byte_said bs (class_bytes x) at 19 2 (omega arith) h

  parent_said : word_at bs at ≡ x.parent
  parent_said =
      let z : at + 0 ≡ at = omega arith in
      word_said bs at x.parent
      (ap (λ k. slice bs k 2) (sym z) ∙ sym (slice_slice bs at 19 0 2 (omega arith)) ∙ ap (λ xs. slice xs 0 2) h)

  field_said : (k : ℕ) → k < length x.fields → kind_at bs (at + 3 + 2 * k) ≡ get_or x.fields k Int
  field_said k l =
      let e : at + 3 + 2 * k ≡ at + suc (suc (suc (2 * k))) = omega arith in
      kind_said bs (at + 3 + 2 * k) (get_or x.fields k Int) (survive k l)
      (ap (λ m. slice bs m 2) e
      ∙ sym (slice_slice bs at 19 (suc (suc (suc (2 * k)))) 2 (omega arith))
      ∙ ap (λ xs. slice xs (suc (suc (suc (2 * k)))) 2) h
      ∙ kind_chunk x.fields (replicate (2 * (8 - length x.fields)) 0) k l)

  pub class_said : class_at bs at ≡ x
  class_said =
      same_class _ _ _ _ parent_said
      (ext_get_or Int (tabulate (count_at bs at) (λ k. kind_at bs (at + 3 + 2 * k))) x.fields
      (length_tabulate (count_at bs at) (λ k. kind_at bs (at + 3 + 2 * k)) ∙ count_said)
      (λ i l.
      let m : i < count_at bs at = omega (arith, length_tabulate (count_at bs at) (λ k. kind_at bs (at + 3 + 2 * k))) in
      get_d_tabulate (count_at bs at) (λ k. kind_at bs (at + 3 + 2 * k)) Int i m ∙ field_said i (omega (arith, count_said))))
