-- The way on which every jump is taken, from an instruction to the one that follows.
use Rattle.std.proofs.Common.{◌≡◌, ℕ, ◌+◌, true, ltb, length, Some, Ok, Err, Option, Result, sym, ap, ◌∙◌, subst}
use Rattle.std.proofs.lemmas.Bool.{true≢false, cond-true, cond-false, lt-ltb}
use Rattle.opcodes.specs.declared.opcode.Instruction.{Instruction}
use Rattle.opcodes.specs.declared.opcode.Ways.{Ways}
use Rattle.opcodes.specs.declared.opcode.Ways.TheVariants.{Next}
use Rattle.opcodes.specs.Table.{line_of}
use Rattle.opcodes.specs.TableRule.{jumps}
use Rattle.format.specs.Parts.{Parts, within, instruction_of}
use Rattle.listing.proofs.Within.{some_within}
use Rattle.machine.specs.Ways.{passes, Leads, next, jump}
use Rattle.analysis_theory.specs.declared.both.Both.{Both}
use Rattle.analysis_theory.specs.declared.fault.Fault.{Fault}
use Rattle.analysis_theory.specs.Methods.{Effected}
use Rattle.types.specs.declared.operands.Operands.{Operands}
use Rattle.slots_theory.specs.declared.set.SlotSet.{SlotSet}
use Rattle.rows_theory.specs.declared.state.RowState.{RowState}
use Rattle.three.specs.Meaning.{three_meaning}
use Rattle.views.specs.declared.way.Way.{Way}
use Rattle.views.specs.declared.way.End.{End}
use Rattle.views.specs.declared.way.End.TheVariants.{Refused}
use Rattle.views.specs.Way.{onward, ways_of, begun, Gone, comes, comes_on, effects, goes}

-- an instruction of the code whose ways are w, which has a jump way
pub onward_jump : (p : Parts) (i : ℕ) (x : Instruction) (w : Ways) → Some x ≡ within i (length p.code) (instruction_of p i) → w ≡ (line_of x.opcode).ways → jumps w ≡ true → (Some x.operand ≡ onward p i) × Leads p i x.operand
onward_jump p i x w h e j =
    let t = some_within i (length p.code) x (instruction_of p i) h in
    let o : ways_of p i ≡ w = sym (e ∙ ap (λ (y : Instruction). (line_of y.opcode).ways) t.1) in
    let k : jumps (ways_of p i) ≡ true = ap jumps o ∙ j in (
      ap (λ (y : Instruction). Some y.operand) t.1 ∙ sym (cond-true (ltb i (length p.code)) _ _ (lt-ltb i _ t.0) ∙ cond-true (jumps (ways_of p i)) _ _ k),
      subst (λ (y : Instruction). Leads p i y.operand) (sym t.1) (jump k),
    )

-- the same, of one that has the next way alone
pub onward_next : (p : Parts) (i : ℕ) (x : Instruction) (w : Ways) → Some x ≡ within i (length p.code) (instruction_of p i) → w ≡ (line_of x.opcode).ways → w ≡ Next → (Some (i + 1) ≡ onward p i) × Leads p i (i + 1)
onward_next p i x w h e is =
    let t = some_within i (length p.code) x (instruction_of p i) h in
    let o : ways_of p i ≡ Next = sym (e ∙ ap (λ (y : Instruction). (line_of y.opcode).ways) t.1) ∙ is in
    let k : passes (ways_of p i) ≡ true = ap passes o in
    (sym (cond-true (ltb i (length p.code)) _ _ (lt-ltb i _ t.0) ∙ cond-false (jumps (ways_of p i)) _ _ (ap jumps o) ∙ cond-true (passes (ways_of p i)) _ _ k), next k)

abbrev State : Type 0
State = Both Operands (Both SlotSet RowState)

abbrev standing : Way → State → Way
standing w s = record { at = w.at; state = s; seen = w.seen }

pub begins : (p : Parts) (s : State) → s ≡ (three_meaning p).start → record { at = 0; state = s; seen = (begun p).seen } ≡ begun p
begins p s e = ap (standing (begun p)) e

refuses : (p : Parts) (w : Way) (o : Result State Fault) (s : State) (f : Fault) → Effected o w.state (Err f) s → (Some (Refused w.at f) ≡ (effects p w o).why) × (standing w s ≡ (effects p w o).way)
refuses p w (Ok t) s f h = let h0 = h.0 in absurd (true≢false (cc))
refuses p w (Err g) s f h = let h0 = h.0 in let same : f ≡ g = cc in (ap (λ (x : Fault). Some (Refused w.at x)) same, ap (standing w) h.1)

comes_on_sound : (p : Parts) (w : Way) (o : Result State Fault) (s : State) (j : ℕ) → Effected o w.state (Ok tt) s → Some j ≡ onward p w.at → comes p (standing w s) j ≡ effects p w o
comes_on_sound p w (Ok t) s j h n = let h1 = h.1 in ap (comes_on p (standing w s)) n ∙ ap (λ (x : State). comes_on p (standing w x) (onward p w.at)) h1
comes_on_sound p w (Err g) s j h n = let h0 = h.0 in absurd (true≢false (cc))

-- the way ends where the effect was refused
pub goes_refused : (p : Parts) (w : Way) (s : State) (f : Fault) → Effected ((three_meaning p).after w.at w.state) w.state (Err f) s → (Some (Refused w.at f) ≡ (goes p w).why) × (standing w s ≡ (goes p w).way)
goes_refused p w s f h = refuses p w ((three_meaning p).after w.at w.state) s f h

-- where the effect was made, it comes to the instruction that follows
pub goes_on : (p : Parts) (w v : Way) (s : State) (j : ℕ) (why : Option End) → Effected ((three_meaning p).after w.at w.state) w.state (Ok tt) s → Some j ≡ onward p w.at → why ≡ (comes p (standing w s) j).why → v ≡ (comes p (standing w s) j).way → (why ≡ (goes p w).why) × (v ≡ (goes p w).way)
goes_on p w v s j why h n e f =
    let k = comes_on_sound p w ((three_meaning p).after w.at w.state) s j h n in
    (e ∙ ap (λ (g : Gone). g.why) k, f ∙ ap (λ (g : Gone). g.way) k)
