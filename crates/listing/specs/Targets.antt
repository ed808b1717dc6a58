-- The instructions that jumps go to.
use Rattle.std.specs.Prelude.{◌≡◌, ℕ, ◌<◌, Bool, true, false, List, slice_index_or}
use Rattle.opcodes.specs.declared.opcode.Instruction.{Instruction}
use Rattle.opcodes.specs.Table.{line_of}
use Rattle.opcodes.specs.TableRule.{jumps}
use Rattle.format.specs.Parts.{Parts, instruction_of}

-- whether a run may jump from an instruction
abbrev pub is_jump : Instruction → Bool
is_jump i = jumps (line_of i.opcode).ways

-- Of the targets below 1,024, which are all that there are, those of the first n instructions are marked, and nothing else.
pub record Marked (p : Parts) (n : ℕ) (marks : List Bool) : Type 0 where
  pub every : (i : ℕ) → i < n → is_jump (instruction_of p i) ≡ true → (instruction_of p i).operand < 1024 → slice_index_or marks (instruction_of p i).operand false ≡ true
  pub only : (t : ℕ) → slice_index_or marks t false ≡ true → (i : ℕ) × (i < n) × (is_jump (instruction_of p i) ≡ true) × ((instruction_of p i).operand ≡ t)
