-- An instruction passes its test exactly if it is right.
use Rattle.std.proofs.Common.{◌≡◌, ℕ, ◌+◌, ◌*◌, ◌/◌, ◌%◌, ◌<◌, ◌≤◌, ltb, List, [], ◌∷◌, length, Decides, sym, refl, ap, ◌∙◌, subst, arith}
use Rattle.std.proofs.lemmas.Bool.{and_parts, and_from, ltb-true, lt-ltb}
use Rattle.std.proofs.lemmas.Bool.Decides.{Decides-eqb}
use Rattle.opcodes.specs.declared.opcode.Instruction.{Instruction}
use Rattle.opcodes.specs.declared.opcode.Sort.{Sort}
use Rattle.opcodes.specs.declared.opcode.Sort.TheVariants.{Unused, Number, Slot, Class, Field, Target}
use Rattle.opcodes.specs.Numbers.{opcode_number}
use Rattle.opcodes.specs.Table.{Line, line_at, line_of, opcode_at}
use Rattle.opcodes.proofs.TableRules.{number_at, number_below}
use Rattle.format.specs.declared.layout.Layout.{Layout}
use Rattle.format.specs.Bytes.{AllBytes, byte_at, word_at}
use Rattle.format.specs.Parts.{Parts, instruction_of}
use Rattle.format.specs.Encoding.{instruction_bytes}
use Rattle.format.specs.Rules.{Names}
use Rattle.format.specs.Decoding.{instruction_at, parts_at}
use Rattle.format.specs.Tests.{count_at, names_test, instruction_readable}
use Rattle.format.specs.Right.{CodeRight}
use Rattle.format.proofs.Slices.{first_said}
use Rattle.format.proofs.Words.{word_of}
use Rattle.format.proofs.Views.{class_count, slot_count, code_count, field_count_view, instruction_view}
use Rattle.format.proofs.Framing.{three}

-- a test of an order, where the bound has another name
below_decides : (n k m : ℕ) → k ≡ m → Decides (ltb n k) (n < m)
below_decides n k m e = (λ t. omega (arith, ltb-true n k t), λ h. lt-ltb n k (omega (arith, h)))

pub names_decides : (bs : List ℕ) (l : Layout) (s : Sort) (n : ℕ) → Decides (names_test bs l s n) (Names (parts_at bs l) s n)
names_decides bs l Unused n = Decides-eqb n 0
names_decides bs l Number n = (λ _. tt, λ _. refl)
names_decides bs l Slot n = below_decides n _ _ (sym (slot_count bs l))
names_decides bs l Class n = below_decides n _ _ (sym (class_count bs l))
names_decides bs l Field n =
    let c = below_decides (n / 8) _ _ (sym (class_count bs l)) in (
      λ t.
          let b = and_parts (ltb (n / 8) l.classes.count) (ltb (n % 8) (count_at bs (l.classes.start + 19 * (n / 8)))) t in
          (c.0 b.0, omega (arith, ltb-true _ _ b.1, field_count_view bs l (n / 8) (ltb-true _ _ b.0))),
      λ h.
          let k : n / 8 < l.classes.count = ltb-true _ _ (c.1 h.0) in
          and_from (ltb (n / 8) l.classes.count) (ltb (n % 8) (count_at bs (l.classes.start + 19 * (n / 8)))) (c.1 h.0)
          (lt-ltb _ _ (omega (arith, h.1, field_count_view bs l (n / 8) k))),
    )
names_decides bs l Target n = below_decides n _ _ (sym (code_count bs l))

-- what the code rule asks of an instruction
abbrev asked : Parts → Instruction → Type 0
asked p x = Names p (line_of x.opcode).sort x.operand

module _ (bs : List ℕ) (l : Layout) (i : ℕ) (bytes : AllBytes bs) (here : i < l.code.count) (fits : l.code.start + 3 * l.code.count ≤ length bs) where
  at : ℕ
  at = l.code.start + 3 * i

  view : instruction_of (parts_at bs l) i ≡ instruction_at bs (l.code.start + 3 * i)
  view = instruction_view bs l i here

  to_right : byte_at bs (l.code.start + 3 * i) < 15 → Names (parts_at bs l) (line_at (byte_at bs (l.code.start + 3 * i))).sort (word_at bs (l.code.start + 3 * i + 1)) → CodeRight bs l i
  unfolding at
  to_right lt names =
      let number = number_at (byte_at bs at) lt in
      record {
        here =
            three bs at 0 (omega arith)
            ∙ ap (λ o. o ∷ byte_at bs (at + 1) ∷ byte_at bs (at + 1 + 1) ∷ []) (sym number)
            ∙ ap (λ ws. opcode_number (opcode_at (byte_at bs at)) ∷ ws) (sym (word_of (byte_at bs (at + 1)) (byte_at bs (at + 1 + 1)) (bytes (at + 1 + 1) (omega arith))))
            ∙ ap instruction_bytes (sym view);
        rule =
            subst (asked (parts_at bs l)) (sym view)
            (subst (λ (y : Line). Names (parts_at bs l) y.sort (word_at bs (at + 1))) (ap line_at (sym number)) names);
      }

  exists : CodeRight bs l i → byte_at bs (l.code.start + 3 * i) < 15
  unfolding at
  exists r =
      let b : byte_at bs at ≡ opcode_number (instruction_of (parts_at bs l) i).opcode = first_said bs _ at 3 (omega arith) r.here in
      omega (arith, b, number_below (instruction_of (parts_at bs l) i).opcode)

  from_right : CodeRight bs l i → Names (parts_at bs l) (line_at (byte_at bs (l.code.start + 3 * i))).sort (word_at bs (l.code.start + 3 * i + 1))
  unfolding at
  from_right r =
      subst (λ (y : Line). Names (parts_at bs l) y.sort (word_at bs (at + 1))) (ap line_at (number_at (byte_at bs at) (exists r)))
      (subst (asked (parts_at bs l)) view r.rule)

  pub code_decides : Decides (instruction_readable bs l i) (CodeRight bs l i)
  code_decides =
      let d = names_decides bs l (line_at (byte_at bs (l.code.start + 3 * i))).sort (word_at bs (l.code.start + 3 * i + 1)) in (
        λ t.
            let b = and_parts (ltb (byte_at bs (l.code.start + 3 * i)) 15) (names_test bs l (line_at (byte_at bs (l.code.start + 3 * i))).sort (word_at bs (l.code.start + 3 * i + 1))) t in
            to_right (ltb-true _ _ b.0) (d.0 b.1),
        λ r. and_from (ltb (byte_at bs (l.code.start + 3 * i)) 15) (names_test bs l (line_at (byte_at bs (l.code.start + 3 * i))).sort (word_at bs (l.code.start + 3 * i + 1))) (lt-ltb _ _ (exists r)) (d.1 (from_right r)),
      )
