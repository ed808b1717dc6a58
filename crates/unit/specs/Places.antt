-- Where a record of a unit lies: within the bytes, which say there what the unit's parts have; nothing past the table.
use Rattle.std.specs.Prelude.{◌≡◌, ℕ, ◌+◌, ◌*◌, ◌<◌, ◌≤◌, length, Some, None, Option}
use Rattle.format.specs.declared.layout.Span.{Span}
use Rattle.format.specs.Bytes.{byte_at, word_at}
use Rattle.format.specs.Parts.{class_of, parent_of, field_count, slot_of, instruction_of}
use Rattle.format.specs.Decoding.{class_at, kind_at, instruction_at}
use Rattle.format.specs.Tests.{count_at}
use Rattle.unit.specs.declared.unit.Unit.{Unit}
use Rattle.unit.specs.Model.{parts_of}

-- where record i of a table stands, of records of one width, if there are so many
abbrev pub RecordPlace : Span → ℕ → ℕ → Option ℕ → Type 0
RecordPlace t width i (Some at) = (i < t.count) × (at ≡ t.start + width * i)
RecordPlace t width i None = t.count ≤ i

abbrev pub ClassPlace : Unit → ℕ → Option ℕ → Type 0
ClassPlace u c (Some at) =
    (c < length (parts_of u).classes)
    × (at + 19 ≤ length u.bytes.now)
    × (class_of (parts_of u) c ≡ class_at u.bytes.now at)
    × (parent_of (parts_of u) c ≡ word_at u.bytes.now at)
    × (field_count (parts_of u) c ≡ count_at u.bytes.now at)
    × (count_at u.bytes.now at ≤ 8)
ClassPlace u c None = length (parts_of u).classes ≤ c

abbrev pub SlotPlace : Unit → ℕ → Option ℕ → Type 0
SlotPlace u i (Some at) =
    (i < length (parts_of u).slots) × (at + 2 ≤ length u.bytes.now) × (slot_of (parts_of u) i ≡ kind_at u.bytes.now at)
SlotPlace u i None = length (parts_of u).slots ≤ i

abbrev pub InstructionPlace : Unit → ℕ → Option ℕ → Type 0
InstructionPlace u i (Some at) =
    (i < length (parts_of u).code)
    × (at + 3 ≤ length u.bytes.now)
    × (instruction_of (parts_of u) i ≡ instruction_at u.bytes.now at)
    × (byte_at u.bytes.now at < 15)
InstructionPlace u i None = length (parts_of u).code ≤ i

-- The tables of a unit have as many records as its parts say, some and no more than there may be, the depth is no more than it
-- may be, and every class but the root has a parent of lower number.
pub record Tables (u : Unit) : Type 0 where
  pub classes : length (parts_of u).classes ≡ u.layout.classes.count
  pub slots : length (parts_of u).slots ≡ u.layout.slots.count
  pub code : length (parts_of u).code ≡ u.layout.code.count
  pub shallow : u.layout.depth ≤ 16
  pub some_classes : 0 < u.layout.classes.count
  pub few_classes : u.layout.classes.count ≤ 256
  pub some_slots : 0 < u.layout.slots.count
  pub few_slots : u.layout.slots.count ≤ 32
  pub some_code : 0 < u.layout.code.count
  pub few_code : u.layout.code.count ≤ 1024
  pub lower : (c : ℕ) → 0 < c → c < length (parts_of u).classes → parent_of (parts_of u) c < c
