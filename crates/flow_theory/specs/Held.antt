-- The typing that a walk holds, and the entries that are written from a typing.
use Rattle.std.specs.Prelude.{ℕ, zero, suc, Bool, false, cond, ◌&&◌, ◌||◌, length, is_some, Some, None, Ok, Err, Option, Result, ◌==◌, nat_lt}
use Rattle.opcodes.specs.TableRule.{jumps}
use Rattle.format.specs.Parts.{Parts, instruction_of}
use Rattle.analysis_theory.specs.Meaning.{Meaning}
use Rattle.analysis_theory.specs.Typing.{Typing}
use Rattle.flow_theory.specs.declared.flow.FlowFault.{FlowFault}
use Rattle.flow_theory.specs.Walk.{ways_at, holds, turn}

abbrev pub or_nothing : {S : Type 0} → Result (Option S) FlowFault → Option S
or_nothing (Ok arriving) = arriving
or_nothing (Err f) = None

-- what arrives at instruction i, as long as the walk goes on
abbrev pub arriving : {S : Type 0} → Parts → Meaning S → Typing S → ℕ → Option S
arriving p m entries zero = Some m.start
arriving p m entries (suc i) = or_nothing (turn p m entries i (arriving p m entries i))

-- what each instruction of the code holds
abbrev pub held : {S : Type 0} → Parts → Meaning S → Typing S → Typing S
held p m entries i = cond (nat_lt i (length p.code)) (holds (entries i) (arriving p m entries i)) None

-- whether one of the first n instructions has a state and jumps to j
abbrev pub targeted : {S : Type 0} → Parts → Typing S → ℕ → ℕ → Bool
targeted p τ zero j = false
targeted p τ (suc n) j = (is_some (τ n) && (jumps (ways_at p n) && (instruction_of p n).operand == j)) || targeted p τ n j

-- a typing's entries: the states of the instructions that an instruction with a state jumps to
abbrev pub entries_of : {S : Type 0} → Parts → Typing S → Typing S
entries_of p τ j = cond (targeted p τ (length p.code) j) (τ j) None
