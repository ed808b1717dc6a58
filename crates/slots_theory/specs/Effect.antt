-- What an instruction makes of the slots that are surely set: load needs its slot among them, store adds its slot, and all
-- others leave them.
use Rattle.std.specs.Prelude.{ℕ, cond, length, Ok, Err, Result, nat_lt}
use Rattle.opcodes.specs.declared.opcode.Opcode.{Opcode}
use Rattle.opcodes.specs.declared.opcode.Opcode.TheVariants.{Push, Nil, Load, Store, Drop, Add, Less, Jump, Branch, Brnull, New, Get, Put, Post, Return}
use Rattle.format.specs.Parts.{Parts, instruction_of}
use Rattle.analysis_theory.specs.declared.fault.Cause.{Cause}
use Rattle.analysis_theory.specs.declared.fault.Cause.TheVariants.{Unset, Outside}
use Rattle.analysis_theory.specs.declared.fault.Fault.{Fault}
use Rattle.slots_theory.specs.declared.set.SlotSet.{SlotSet}
use Rattle.slots_theory.specs.Sets.{has_slot, with_slot}

-- a fault of this analysis, whose layer is 2
abbrev pub slot_fault : Cause → Fault
slot_fault w = record { layer = 2; cause = w }

abbrev pub loading : ℕ → SlotSet → Result SlotSet Fault
loading n s = cond (has_slot s n) (Ok s) (Err (slot_fault (Unset n)))

abbrev pub slots_by : Opcode → ℕ → SlotSet → Result SlotSet Fault
slots_by Push n s = Ok s
slots_by Nil n s = Ok s
slots_by Load n s = loading n s
slots_by Store n s = Ok (with_slot s n)
slots_by Drop n s = Ok s
slots_by Add n s = Ok s
slots_by Less n s = Ok s
slots_by Jump n s = Ok s
slots_by Branch n s = Ok s
slots_by Brnull n s = Ok s
slots_by New n s = Ok s
slots_by Get n s = Ok s
slots_by Put n s = Ok s
slots_by Post n s = Ok s
slots_by Return n s = Ok s

-- instruction i, and a fault where there is none
abbrev pub slots_after : Parts → ℕ → SlotSet → Result SlotSet Fault
slots_after p i s =
    cond (nat_lt i (length p.code)) (slots_by (instruction_of p i).opcode (instruction_of p i).operand s) (Err (slot_fault Outside))
