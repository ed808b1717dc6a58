-- What an analysis means, for one unit, over the values S that it keeps its states in.
use Rattle.std.specs.Prelude.{ℕ, Bool, List, Option, Result}
use Rattle.analysis_theory.specs.declared.fault.Fault.{Fault}
use Rattle.analysis_theory.specs.declared.fault.Unreadable.{Unreadable}
use Rattle.machine.specs.Configuration.{Configuration}

-- a state that was read, and how many bytes it took
pub record Got (S : Type 0) : Type 0 where
  pub state : S
  pub length : ℕ

pub record Meaning (S : Type 0) : Type 1 where
  -- which values are states of this unit
  pub is_state : S → Bool
  -- the state in which a run starts
  pub start : S
  -- the order of states
  pub below : S → S → Bool
  -- the least state above two, and none where no state is above both
  pub join : S → S → Option S
  -- a number that falls from a state to any other above it
  pub height : S → ℕ
  -- what an instruction, by its number, makes of a state: the state after it, or a fault
  pub after : ℕ → S → Result S Fault
  -- which configurations a state describes
  pub describes : S → Configuration → Type 0
  -- the faults of the tagged machine that an accepted instruction can't meet, by number
  pub forbids : ℕ → Bool
  -- the layers under which it refuses
  pub has_layer : ℕ → Bool
  -- the writing of a state
  pub bytes : S → List ℕ
  -- the state that bytes begin with, and the length of its writing
  pub parsed : List ℕ → Result (Got S) Unreadable
