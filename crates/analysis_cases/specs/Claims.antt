-- What a worked example of the analyses can claim, and what each claim means, over the definitions that the contracts use.
use Rattle.std.specs.Prelude.{◌≡◌, ℕ, List, Ok, Err}
use Rattle.kinds.specs.declared.kind.Kind.{Kind}
use Rattle.format.specs.Parts.{Parts}
use Rattle.machine.specs.Values.{Vessel}
use Rattle.machine.specs.Runs.{Announced}
use Rattle.analysis_theory.specs.declared.both.Both.{Both}
use Rattle.analysis_theory.specs.declared.fault.Fault.{Fault}
use Rattle.analysis_theory.specs.Faults.{fault_number, fault_detail}
use Rattle.analysis_theory.specs.Pairs.{both}
use Rattle.types.specs.declared.operands.Operands.{Operands}
use Rattle.slots_theory.specs.declared.set.SlotSet.{SlotSet}
use Rattle.slots_theory.specs.Sets.{of_bits}
use Rattle.rows_theory.specs.declared.state.RowState.{RowState}
use Rattle.three.specs.Meaning.{three_meaning}

-- a state of the three: the kinds of the operands, the top one first, the set of slots as a number, and the row
pub record Seen : Type 0 where
  pub operands : List Kind
  pub slots : ℕ
  pub row : RowState

abbrev pub seen_state : Seen → Both Operands (Both SlotSet RowState)
seen_state s = both s.operands (both (of_bits s.slots) s.row)

pub data Claim : Type 0 where
  -- this unit takes this vessel
  announces : Parts → Vessel → Claim
  -- under the three, the instruction of this number makes of the first state the second
  makes : Parts → ℕ → Seen → Seen → Claim
  -- under the three, it is refused in this state, with this layer, fault and detail
  faults : Parts → ℕ → Seen → ℕ → ℕ → ℕ → Claim
  -- under the three, this state is written so
  writes : Parts → Seen → List ℕ → Claim

abbrev pub Holds : Claim → Type 0
Holds (announces p v) = Announced p v
Holds (makes p i s t) = (three_meaning p).after i (seen_state s) ≡ Ok (seen_state t)
Holds (faults p i s l f d) =
    (e : Fault) × ((three_meaning p).after i (seen_state s) ≡ Err e) × (e.layer ≡ l) × (fault_number e.cause ≡ f) × (fault_detail e.cause ≡ d)
Holds (writes p s bs) = (three_meaning p).bytes (seen_state s) ≡ bs
