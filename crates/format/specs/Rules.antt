-- The rules that the parts of a unit keep.
use Rattle.std.specs.Prelude.{◌≡◌, ℕ, ◌/◌, ◌%◌, ◌<◌, ◌≤◌, length}
use Rattle.kinds.specs.declared.kind.Kind.{Kind}
use Rattle.kinds.specs.declared.kind.Kind.TheVariants.{Int, Null, Unusable, Class}
use Rattle.opcodes.specs.declared.opcode.Sort.{Sort}
use Rattle.opcodes.specs.declared.opcode.Sort.TheVariants.{Unused, Number, Slot, Class as ClassNumber, Field, Target}
use Rattle.opcodes.specs.Table.{line_of}
use Rattle.format.specs.Parts.{Parts, parent_of, field_count, field_of, slot_of, instruction_of}

-- what a slot or a field may hold: an int, or a class of so many
abbrev pub Storable : ℕ → Kind → Type 0
Storable classes Int = Unit {0}
Storable classes Null = ⊥
Storable classes Unusable = ⊥
Storable classes (Class c) = c < classes

abbrev pub IsClass : Kind → Type 0
IsClass Int = ⊥
IsClass Null = ⊥
IsClass Unusable = ⊥
IsClass (Class c) = Unit {0}

-- Class 0 is the root, its own parent, with no fields. Every other class has a parent of lower number and begins with all
-- its parent's field kinds, in order. No class has more than eight fields.
pub record ClassRule (p : Parts) (c : ℕ) : Type 0 where
  pub few : field_count p c ≤ 8
  pub storable : (k : ℕ) → k < field_count p c → Storable (length p.classes) (field_of p c k)
  pub root : c ≡ 0 → (parent_of p c ≡ 0) × (field_count p c ≡ 0)
  pub lower : 0 < c → parent_of p c < c
  pub extends : 0 < c → field_count p (parent_of p c) ≤ field_count p c
  pub inherits : 0 < c → (k : ℕ) → k < field_count p (parent_of p c) → field_of p c k ≡ field_of p (parent_of p c) k

-- A slot holds an int or a class; slot 0, which takes the announced vessel, a class.
pub record SlotRule (p : Parts) (i : ℕ) : Type 0 where
  pub storable : Storable (length p.classes) (slot_of p i)
  pub vessel : i ≡ 0 → IsClass (slot_of p i)

-- What an instruction's number names exists; one that names nothing is 0.
abbrev pub Names : Parts → Sort → ℕ → Type 0
Names p Unused n = n ≡ 0
Names p Number n = Unit {0}
Names p Slot n = n < length p.slots
Names p ClassNumber n = n < length p.classes
Names p Field n = (n / 8 < length p.classes) × (n % 8 < field_count p (n / 8))
Names p Target n = n < length p.code

abbrev pub CodeRule : Parts → ℕ → Type 0
CodeRule p i = Names p (line_of (instruction_of p i).opcode).sort (instruction_of p i).operand

pub record Keeps (p : Parts) : Type 0 where
  pub shallow : p.depth ≤ 16
  pub some_classes : 0 < length p.classes
  pub most_classes : length p.classes ≤ 256
  pub classes_keep : (c : ℕ) → c < length p.classes → ClassRule p c
  pub some_slots : 0 < length p.slots
  pub most_slots : length p.slots ≤ 32
  pub slots_keep : (i : ℕ) → i < length p.slots → SlotRule p i
  pub some_code : 0 < length p.code
  pub most_code : length p.code ≤ 1024
  pub code_keeps : (i : ℕ) → i < length p.code → CodeRule p i
  -- an instruction's number has two bytes
  pub operands_fit : (i : ℕ) → i < length p.code → (instruction_of p i).operand < 65536
