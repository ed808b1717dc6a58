-- Which configurations a stack of kinds describes: each operand conforms to its kind, each slot that is set to the slot's
-- kind, and each field of an object to the field's kind; objects are of classes that there are, and references lead to objects.
use Rattle.std.specs.Prelude.{◌≡◌, ℕ, zero, suc, ◌<◌, true, List, [], ◌∷◌, length, pos, Some, None, slice_index_or}
use Rattle.kinds.specs.declared.kind.Kind.{Kind}
use Rattle.format.specs.Parts.{Parts, field_count, field_of, slot_of}
use Rattle.machine.specs.Values.{Value, int, ref, Object}
use Rattle.machine.specs.Conforming.{conforms}
use Rattle.machine.specs.Configuration.{Configuration}
use Rattle.machine.specs.Step.{object_at}

-- a reference is null or leads to one of so many objects
abbrev pub LeadsTo : ℕ → Value → Type 0
LeadsTo objects (int z) = Unit {0}
LeadsTo objects (ref zero) = Unit {0}
LeadsTo objects (ref (suc i)) = i < objects

-- a value may stand where a kind is asked for
pub record Fits (p : Parts) (os : List Object) (v : Value) (k : Kind) : Type 0 where
  pub conforming : conforms p os v k ≡ true
  pub leading : LeadsTo (length os) v

-- operands and kinds, both with the top first
pub data FitAll (p : Parts) (os : List Object) : List Value → List Kind → Type 0 where
  none : FitAll p os [] []
  more : {v : Value} {k : Kind} {vs : List Value} {ks : List Kind} → Fits p os v k → FitAll p os vs ks → FitAll p os (v ∷ vs) (k ∷ ks)

pub record ObjectFits (p : Parts) (os : List Object) (o : Object) : Type 0 where
  pub class_known : o.class < length p.classes
  pub cells_count : length o.cells ≡ field_count p o.class
  pub cells_fit : (k : ℕ) → k < field_count p o.class → Fits p os (slice_index_or o.cells k (int (pos 0))) (field_of p o.class k)

pub record Described (p : Parts) (ks : List Kind) (c : Configuration) : Type 0 where
  pub operands_fit : FitAll p c.objects c.operands ks
  pub slots_count : length c.slots ≡ length p.slots
  pub slots_fit : (i : ℕ) (v : Value) → i < length p.slots → slice_index_or c.slots i None ≡ Some v → Fits p c.objects v (slot_of p i)
  pub objects_fit : (i : ℕ) → i < length c.objects → ObjectFits p c.objects (object_at c.objects i)
