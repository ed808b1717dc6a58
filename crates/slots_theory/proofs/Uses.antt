-- What the instructions do with the slots, in three cases: load, store, and all others, which leave what is known of them.
use Rattle.std.specs.Prelude.{◌≡◌, ℕ, ◌<◌, Bool, true, false, cond, length, Ok, Err, Result, ◌==◌, ◌≢◌, nat_lt, refl}
use Rattle.std.proofs.Common.{ap, subst, arith}
use Rattle.std.proofs.lemmas.Bool.{eqb-false, ltb-true}
use Rattle.opcodes.specs.declared.opcode.Opcode.{Opcode}
use Rattle.opcodes.specs.declared.opcode.Opcode.TheVariants.{Load, Store}
use Rattle.opcodes.specs.Numbers.{opcode_number}
use Rattle.opcodes.specs.Table.{line_of}
use Rattle.format.specs.Parts.{Parts, instruction_of}
use Rattle.format.specs.Rules.{Keeps, Names}
use Rattle.analysis_theory.specs.declared.fault.Fault.{Fault}
use Rattle.slots_theory.specs.declared.set.SlotSet.{SlotSet}
use Rattle.slots_theory.specs.Sets.{has_slot}
use Rattle.slots_theory.specs.Effect.{loading, slots_by, slots_after}

pub data Use : Opcode → Type 0 where
  loads : Use Load
  stores : Use Store
  leaves : {o : Opcode} → (o ≢ Load) → (o ≢ Store) → ((n : ℕ) (s : SlotSet) → slots_by o n s ≡ Ok s) → Use o

-- instructions are told apart by their numbers
pub apart : (o q : Opcode) → (opcode_number o == opcode_number q) ≡ false → o ≢ q
apart o q f e = eqb-false _ _ f (ap opcode_number e)

pub use_of : (o : Opcode) → Use o
use_of Load = loads
use_of Store = stores
use_of o = leaves (λ e. cc) (λ e. cc) (λ n s. refl)

-- a refusal is no acceptance
pub refused_not_accepted : {f : Fault} {t : SlotSet} → ◌≡◌ {A = Result SlotSet Fault} (Err f) (Ok t) → ⊥
refused_not_accepted e = grind arith

pub accepted_same : {s t : SlotSet} → ◌≡◌ {A = Result SlotSet Fault} (Ok s) (Ok t) → s ≡ t
accepted_same e = cc

-- a test before an acceptance has passed
tested : (b : Bool) (r : Result SlotSet Fault) (f : Fault) (t : SlotSet) → cond b r (Err f) ≡ Ok t → (b ≡ true) × (r ≡ Ok t)
tested b r f t e = (grind arith, grind arith)

-- load is accepted only where its slot is in the set, and leaves the set
pub loaded : (n : ℕ) (s t : SlotSet) → loading n s ≡ Ok t → (has_slot s n ≡ true) × (s ≡ t)
loaded n s t e = let h = tested (has_slot s n) (Ok s) _ t e in (h.0, accepted_same h.1)

-- an instruction that is accepted stands inside the code, and is accepted for what it does there
pub inside : (p : Parts) (i : ℕ) (s t : SlotSet) → slots_after p i s ≡ Ok t → (i < length p.code) × (slots_by (instruction_of p i).opcode (instruction_of p i).operand s ≡ Ok t)
inside p i s t e =
    let h = tested (nat_lt i (length p.code)) (slots_by (instruction_of p i).opcode (instruction_of p i).operand s) _ t e in
    (ltb-true _ _ h.0, h.1)

-- the slot of a store exists
pub store_names_a_slot : (p : Parts) → Keeps p → (i : ℕ) → i < length p.code → (instruction_of p i).opcode ≡ Store → (instruction_of p i).operand < length p.slots
store_names_a_slot p k i l e =
    subst (λ (o : Opcode). Names p (line_of o).sort (instruction_of p i).operand) e (k.code_keeps i l)
