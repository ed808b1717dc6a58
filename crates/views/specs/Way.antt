-- The way through a rule on which every jump is taken, and what the three analyses say along it.
use Rattle.std.specs.Prelude.{ℕ, ◌+◌, true, false, cond, length, replicate, Some, None, Ok, Err, Option, Result, nat_lt, slice_index_or, slice_set}
use Rattle.opcodes.specs.declared.opcode.Ways.{Ways}
use Rattle.opcodes.specs.Table.{line_of}
use Rattle.opcodes.specs.TableRule.{jumps}
use Rattle.format.specs.Parts.{Parts, instruction_of}
use Rattle.machine.specs.Ways.{passes, Leads}
use Rattle.analysis_theory.specs.declared.both.Both.{Both}
use Rattle.analysis_theory.specs.declared.fault.Fault.{Fault}
use Rattle.types.specs.declared.operands.Operands.{Operands}
use Rattle.slots_theory.specs.declared.set.SlotSet.{SlotSet}
use Rattle.rows_theory.specs.declared.state.RowState.{RowState}
use Rattle.three.specs.Meaning.{three_meaning}
use Rattle.views.specs.declared.way.Way.{Way}
use Rattle.views.specs.declared.way.End.{End}
use Rattle.views.specs.declared.way.End.TheVariants.{Returned, Refused, Left, Again}

-- the ways of instruction i
abbrev pub ways_of : Parts → ℕ → Ways
ways_of p i = (line_of (instruction_of p i).opcode).ways

-- where the way goes on after instruction i: the jump way's target, else the next instruction, else none
abbrev pub onward : Parts → ℕ → Option ℕ
onward p i =
    cond (nat_lt i (length p.code)) (cond (jumps (ways_of p i)) (Some (instruction_of p i).operand) (cond (passes (ways_of p i)) (Some (i + 1)) None)) None

-- an instruction that is named is one that instruction i leads to
abbrev pub LeadsOn : Parts → ℕ → Option ℕ → Type 0
LeadsOn p i (Some j) = Leads p i j
LeadsOn p i None = Unit {0}

-- where the way begins
abbrev pub begun : Parts → Way
begun p = record { at = 0; state = (three_meaning p).start; seen = slice_set (replicate 1024 false) 0 true }

-- a step of the way: why it ends, if it does, and where it stands then
pub record Gone : Type 0 where
  pub why : Option End
  pub way : Way

abbrev pub ended : End → Way → Gone
ended e w = record { why = Some e; way = w }

-- the way comes to instruction j: outside the code, or where it has been, it ends
abbrev pub comes : Parts → Way → ℕ → Gone
comes p w j =
    cond (nat_lt j (length p.code))
    (cond (slice_index_or w.seen j false) (ended (Again j) w) (record { why = None; way = record { at = j; state = w.state; seen = slice_set w.seen j true } }))
    (ended (Left w.at) w)

abbrev pub comes_on : Parts → Way → Option ℕ → Gone
comes_on p w (Some j) = comes p w j
comes_on p w None = ended Returned w

-- an instruction's effect is made first; a fault ends the way
abbrev pub effects : Parts → Way → Result (Both Operands (Both SlotSet RowState)) Fault → Gone
effects p w (Ok t) = comes_on p (record { at = w.at; state = t; seen = w.seen }) (onward p w.at)
effects p w (Err f) = ended (Refused w.at f) w

abbrev pub goes : Parts → Way → Gone
goes p w = effects p w ((three_meaning p).after w.at w.state)
