-- The walk: upward from instruction 0, where the start arrives, with an entry for some instructions. An instruction holds its
-- entry if it has one, else what arrives, else nothing, and is then passed over.
use Rattle.std.specs.Prelude.{ℕ, zero, suc, ◌+◌, Bool, true, cond, length, Some, None, Ok, Err, Option, Result, nat_lt}
use Rattle.opcodes.specs.declared.opcode.Ways.{Ways}
use Rattle.opcodes.specs.Table.{line_of}
use Rattle.opcodes.specs.TableRule.{jumps}
use Rattle.format.specs.Parts.{Parts, instruction_of}
use Rattle.machine.specs.Ways.{passes}
use Rattle.analysis_theory.specs.declared.fault.Fault.{Fault}
use Rattle.analysis_theory.specs.Meaning.{Meaning}
use Rattle.analysis_theory.specs.Typing.{Typing}
use Rattle.flow_theory.specs.declared.flow.FlowFault.{FlowFault}
use Rattle.flow_theory.specs.declared.flow.FlowFault.TheVariants.{NotBelow, Effect, NoEntry, Leaves}

-- where what arrives at an instruction comes from: the one before it, and the start as none
abbrev pub sender_of : ℕ → Option ℕ
sender_of zero = None
sender_of (suc i) = Some i

abbrev pub ways_at : Parts → ℕ → Ways
ways_at p i = (line_of (instruction_of p i).opcode).ways

-- the entry, if there is one, else what arrives
abbrev pub holds : {S : Type 0} → Option S → Option S → Option S
holds (Some e) arriving = Some e
holds None arriving = arriving

-- whether what arrives, if anything does, is below the entry, if there is one
abbrev pub arrives : {S : Type 0} → Meaning S → Option S → Option S → Bool
arrives m (Some e) (Some a) = m.below a e
arrives m (Some e) None = true
arrives m None arriving = true

-- a jump's target has an entry, and the state that comes there is below it
abbrev pub jump_to : {S : Type 0} → Meaning S → ℕ → ℕ → S → Option S → Result (Unit {0}) FlowFault
jump_to m i j t (Some e) = cond (m.below t e) (Ok tt) (Err (NotBelow j (Some i)))
jump_to m i j t None = Err (NoEntry i j)

abbrev pub jumped : {S : Type 0} → Parts → Meaning S → Typing S → ℕ → S → Result (Unit {0}) FlowFault
jumped p m entries i t =
    cond (jumps (ways_at p i)) (jump_to m i (instruction_of p i).operand t (entries (instruction_of p i).operand)) (Ok tt)

-- what arrives at the next instruction
abbrev pub onward : {S : Type 0} → Parts → ℕ → S → Result (Option S) FlowFault
onward p i t = cond (passes (ways_at p i)) (cond (nat_lt (i + 1) (length p.code)) (Ok (Some t)) (Err (Leaves i))) (Ok None)

abbrev pub and_then : {X Y : Type 0} → Result X FlowFault → Result Y FlowFault → Result Y FlowFault
and_then (Ok x) r = r
and_then (Err f) r = Err f

-- from the state after an instruction
abbrev pub visited : {S : Type 0} → Parts → Meaning S → Typing S → ℕ → Result S Fault → Result (Option S) FlowFault
visited p m entries i (Ok t) = and_then (jumped p m entries i t) (onward p i t)
visited p m entries i (Err f) = Err (Effect (record { at = i; fault = f }))

abbrev pub passed_over : {S : Type 0} → Parts → Meaning S → Typing S → ℕ → Option S → Result (Option S) FlowFault
passed_over p m entries i (Some s) = visited p m entries i (m.after i s)
passed_over p m entries i None = Ok None

-- one instruction: from what arrives there to what arrives at the next one
abbrev pub turn : {S : Type 0} → Parts → Meaning S → Typing S → ℕ → Option S → Result (Option S) FlowFault
turn p m entries i arriving =
    cond (arrives m (entries i) arriving) (passed_over p m entries i (holds (entries i) arriving)) (Err (NotBelow i (sender_of i)))

-- where a turn leads, the rest follows
abbrev pub after_turn : {S : Type 0} → Result (Option S) FlowFault → (Option S → Result (Unit {0}) FlowFault) → Result (Unit {0}) FlowFault
after_turn (Ok arriving) rest = rest arriving
after_turn (Err f) rest = Err f

-- so many instructions from i on
abbrev pub walk_from : {S : Type 0} → Parts → Meaning S → Typing S → ℕ → ℕ → Option S → Result (Unit {0}) FlowFault
walk_from p m entries zero i arriving = Ok tt
walk_from p m entries (suc n) i arriving = after_turn (turn p m entries i arriving) (λ a. walk_from p m entries n (i + 1) a)

abbrev pub walk : {S : Type 0} → Parts → Meaning S → Typing S → Result (Unit {0}) FlowFault
walk p m entries = walk_from p m entries (length p.code) 0 (Some m.start)
