-- What a run of the tagged machine stands at, and what a step leads to.
use Rattle.std.specs.Prelude.{ℕ, List, ℤ, Option}
use Rattle.machine.specs.Values.{Value, Object}

-- an instruction number, the operands (the top one first), the slots, each unset or a value, the objects, and the berth of
-- the row that is held, if one is
pub record Configuration : Type 0 where
  pub at : ℕ
  pub operands : List Value
  pub slots : List (Option Value)
  pub objects : List Object
  pub row : Option ℤ

pub data Outcome : Type 0 where
  -- the run goes on
  goes : Configuration → Outcome
  -- it ended with a row of this berth
  returned : ℤ → Outcome
  -- it ended with a stop: 1 for null where an owner is asked for, 2 for an object too many
  stopped : ℕ → Outcome
  -- it ended with a fault
  fault : ℕ → Outcome
