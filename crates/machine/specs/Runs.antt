-- The start of a run for an announced vessel, and the runs from it.
use Rattle.std.specs.Prelude.{◌≡◌, ℕ, zero, suc, ◌-◌, ◌<◌, ◌≤◌, [], ◌∷◌, length, replicate, ℤ, pos, Some, None, slice_index_or}
use Rattle.kinds.specs.declared.kind.Kind.{Kind}
use Rattle.kinds.specs.declared.kind.Kind.TheVariants.{Int, Null, Unusable, Class}
use Rattle.format.specs.Bytes.{tabulate}
use Rattle.format.specs.Rules.{IsClass}
use Rattle.format.specs.Parts.{Parts, field_count, field_of, slot_of}
use Rattle.lattice.specs.Order.{Below}
use Rattle.machine.specs.Values.{Value, int, ref, Object, Vessel}
use Rattle.machine.specs.Configuration.{Configuration, Outcome, goes, returned, stopped, fault}
use Rattle.machine.specs.Step.{step}

-- a vessel that a unit takes: its class is known and lies below slot 0's, and each of its eight cells that is a reference or
-- past the fields is 0
pub record Announced (p : Parts) (v : Vessel) : Type 0 where
  pub known : v.class < length p.classes
  pub fitting : Below p (Class v.class) (slot_of p 0)
  pub eight : length v.cells ≡ 8
  pub references : (k : ℕ) → k < field_count p v.class → IsClass (field_of p v.class k) → slice_index_or v.cells k (pos 0) ≡ pos 0
  pub past : (k : ℕ) → field_count p v.class ≤ k → k < 8 → slice_index_or v.cells k (pos 0) ≡ pos 0

-- a cell as the value of a field of a kind
abbrev pub cell_as : Kind → ℤ → Value
cell_as Int z = int z
cell_as Null z = ref 0
cell_as Unusable z = int z
cell_as (Class c) z = ref 0

abbrev pub vessel_object : Parts → Vessel → Object
vessel_object p v =
    record { class = v.class; cells = tabulate (field_count p v.class) (λ k. cell_as (field_of p v.class k) (slice_index_or v.cells k (pos 0))) }

-- at instruction 0, with the vessel as object 1 in slot 0, and nothing else
abbrev pub start : Parts → Vessel → Configuration
start p v =
    record {
      at = 0;
      operands = [];
      slots = Some (ref 1) ∷ replicate (length p.slots - 1) None;
      objects = vessel_object p v ∷ [];
      row = None;
    }

-- one more step, where the run goes on
abbrev pub further : Parts → Outcome → Outcome
further p (goes c) = step p c
further p (returned b) = returned b
further p (stopped s) = stopped s
further p (fault f) = fault f

-- what n steps lead to
abbrev pub steps : Parts → ℕ → Configuration → Outcome
steps p zero c = goes c
steps p (suc n) c = further p (steps p n c)
