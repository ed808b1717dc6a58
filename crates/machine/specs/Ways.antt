-- Where an instruction leads, and what is expected of a step.
use Rattle.std.specs.Prelude.{◌≡◌, ℕ, ◌+◌, Bool, true, false}
use Rattle.opcodes.specs.declared.opcode.Ways.{Ways}
use Rattle.opcodes.specs.declared.opcode.Ways.TheVariants.{Next, Jump, Both, End}
use Rattle.opcodes.specs.Table.{line_of}
use Rattle.opcodes.specs.TableRule.{jumps}
use Rattle.format.specs.Parts.{Parts, instruction_of}
use Rattle.machine.specs.Configuration.{Configuration, Outcome, goes, returned, stopped, fault}

-- whether a run may go on at the following instruction
abbrev pub passes : Ways → Bool
passes Next = true
passes Jump = false
passes Both = true
passes End = false

-- the ways of instruction i, and the instructions that they lead to
pub data Leads (p : Parts) (i : ℕ) : ℕ → Type 0 where
  next : passes (line_of (instruction_of p i).opcode).ways ≡ true → Leads p i (i + 1)
  jump : jumps (line_of (instruction_of p i).opcode).ways ≡ true → Leads p i (instruction_of p i).operand

-- where the run goes on, P holds of its configuration, and where it meets a fault, F of the fault's number
abbrev pub Expects : (Configuration → Type 0) → (ℕ → Type 0) → Outcome → Type 0
Expects P F (goes c) = P c
Expects P F (returned b) = Unit {0}
Expects P F (stopped s) = Unit {0}
Expects P F (fault f) = F f
