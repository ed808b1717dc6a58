-- What bytes say at given places, whether or not they keep the rules.
use Rattle.std.specs.Prelude.{ℕ, ◌+◌, ◌*◌, List}
use Rattle.kinds.specs.declared.kind.Kind.{Kind}
use Rattle.kinds.specs.Codes.{kind_of}
use Rattle.opcodes.specs.declared.opcode.Instruction.{Instruction}
use Rattle.opcodes.specs.Table.{opcode_at}
use Rattle.format.specs.declared.layout.Layout.{Layout}
use Rattle.format.specs.Bytes.{byte_at, word_at, tabulate}
use Rattle.format.specs.Parts.{ClassParts, Parts}

abbrev pub kind_at : List ℕ → ℕ → Kind
kind_at bs at = kind_of (word_at bs at)

abbrev pub class_at : List ℕ → ℕ → ClassParts
class_at bs at =
    record { parent = word_at bs at; fields = tabulate (byte_at bs (at + 2)) (λ k. kind_at bs (at + 3 + 2 * k)) }

abbrev pub instruction_at : List ℕ → ℕ → Instruction
instruction_at bs at = record { opcode = opcode_at (byte_at bs at); operand = word_at bs (at + 1) }

abbrev pub parts_at : List ℕ → Layout → Parts
parts_at bs l =
    record {
      depth = l.depth;
      classes = tabulate l.classes.count (λ i. class_at bs (l.classes.start + 19 * i));
      slots = tabulate l.slots.count (λ i. kind_at bs (l.slots.start + 2 * i));
      code = tabulate l.code.count (λ i. instruction_at bs (l.code.start + 3 * i));
    }
