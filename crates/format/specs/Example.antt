-- The built-in rule: a vessel whose first cell is below 40 gets berth 1, any other berth 2.
use Rattle.std.specs.Prelude.{ℕ, List, [], ◌∷◌}
use Rattle.kinds.specs.declared.kind.Kind.{Kind}
use Rattle.kinds.specs.declared.kind.Kind.TheVariants.{Int, Class}
use Rattle.opcodes.specs.declared.opcode.Instruction.{Instruction}
use Rattle.opcodes.specs.declared.opcode.Opcode.{Opcode}
use Rattle.opcodes.specs.declared.opcode.Opcode.TheVariants.{Push, Load, Less, Jump, Branch, Get, Post, Return}
use Rattle.format.specs.Parts.{ClassParts, Parts}

abbrev pub class_on : ℕ → List Kind → ClassParts
class_on parent fields = record { parent = parent; fields = fields }

abbrev pub instruction : Opcode → ℕ → Instruction
instruction o n = record { opcode = o; operand = n }

-- the classes are root, vessel, ferry and barge; slot 0 holds the vessel, slot 1 an int
abbrev pub example_rule : Parts
example_rule =
    record {
      depth = 2;
      classes =
          class_on 0 []
          ∷ class_on 0 (Int ∷ [])
          ∷ class_on 1 (Int ∷ Int ∷ [])
          ∷ class_on 1 (Int ∷ [])
          ∷ [];
      slots = Class 1 ∷ Int ∷ [];
      code =
          instruction Load 0
          ∷ instruction Get 8
          ∷ instruction Push 40
          ∷ instruction Less 0
          ∷ instruction Branch 7
          ∷ instruction Push 2
          ∷ instruction Jump 8
          ∷ instruction Push 1
          ∷ instruction Post 0
          ∷ instruction Return 0
          ∷ [];
    }
