-- What the tagged machine handles: values that know what they are, objects, and a vessel as it is announced.
use Rattle.std.specs.Prelude.{ℕ, List, ℤ}

-- a signed 32-bit number, or a reference: 0 for null, else an object's number from 1
pub data Value : Type 0 where
  int : ℤ → Value
  ref : ℕ → Value

-- an object's class, and the values of its fields
pub record Object : Type 0 where
  pub class : ℕ
  pub cells : List Value

-- a vessel as it is announced: its class, and eight signed 32-bit cells
pub record Vessel : Type 0 where
  pub class : ℕ
  pub cells : List ℤ
