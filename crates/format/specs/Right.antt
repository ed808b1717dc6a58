-- What it means that a piece of a unit is right: it is the encoding of what it says, and that keeps its rule.
use Rattle.std.specs.Prelude.{◌≡◌, ℕ, suc, ◌+◌, ◌*◌, ◌<◌, ◌≤◌, List, length}
use Rattle.format.specs.declared.layout.Layout.{Layout}
use Rattle.format.specs.Bytes.{slice}
use Rattle.format.specs.Parts.{Parts, class_of, slot_of, instruction_of}
use Rattle.format.specs.Encoding.{field, head_bytes, class_bytes, kind_bytes, instruction_bytes}
use Rattle.format.specs.Rules.{ClassRule, SlotRule, CodeRule}
use Rattle.format.specs.Decoding.{parts_at}
use Rattle.format.specs.Reading.{places_of, body_length}
use Rattle.format.specs.Stages.{layout_in}

-- a field with this tag stands whole at a place and ends at the next
pub record FieldAt (bs : List ℕ) (tag at next : ℕ) : Type 0 where
  pub body : List ℕ
  pub ends : next ≡ at + 3 + length body
  pub here : slice bs at (3 + length body) ≡ field tag body

-- the fields with the tags 1, 2, .. below this one stand one after another from 0 on and end at a place
pub data FieldsUpTo (bs : List ℕ) : ℕ → ℕ → Type 0 where
  none : FieldsUpTo bs 1 0
  more : {tag at next : ℕ} → FieldsUpTo bs tag at → FieldAt bs tag at next → FieldsUpTo bs (suc tag) next

-- the four fields fill the bytes
pub record FrameRight (bs : List ℕ) : Type 0 where
  pub head : FieldAt bs 1 0 (places_of bs).classes
  pub classes : FieldAt bs 2 (places_of bs).classes (places_of bs).slots
  pub slots : FieldAt bs 3 (places_of bs).slots (places_of bs).code
  pub code : FieldAt bs 4 (places_of bs).code (places_of bs).end
  pub whole : (places_of bs).end ≡ length bs

-- the parts that the bytes say, right or wrong
abbrev pub said : List ℕ → Parts
said bs = parts_at bs (layout_in bs)

-- the head's contents are the version 1 and a depth of at most 16
pub record HeadRight (bs : List ℕ) : Type 0 where
  pub here : slice bs 3 (body_length 0 (places_of bs).classes) ≡ head_bytes (said bs).depth
  pub shallow : (said bs).depth ≤ 16

-- contents of a length are some records of a width, at least one and at most so many
pub record Sized (width most n : ℕ) : Type 0 where
  pub count : ℕ
  pub size : n ≡ width * count
  pub some : 0 < count
  pub few : count ≤ most

pub record ClassRight (bs : List ℕ) (l : Layout) (c : ℕ) : Type 0 where
  pub here : slice bs (l.classes.start + 19 * c) 19 ≡ class_bytes (class_of (parts_at bs l) c)
  pub rule : ClassRule (parts_at bs l) c

pub record SlotRight (bs : List ℕ) (l : Layout) (i : ℕ) : Type 0 where
  pub here : slice bs (l.slots.start + 2 * i) 2 ≡ kind_bytes (slot_of (parts_at bs l) i)
  pub rule : SlotRule (parts_at bs l) i

pub record CodeRight (bs : List ℕ) (l : Layout) (i : ℕ) : Type 0 where
  pub here : slice bs (l.code.start + 3 * i) 3 ≡ instruction_bytes (instruction_of (parts_at bs l) i)
  pub rule : CodeRule (parts_at bs l) i

-- a table has the right size, and each of its records is right
pub record TableRight (size : Type 0) (count : ℕ) (right : ℕ → Type 0) : Type 0 where
  pub size_right : size
  pub each : (i : ℕ) → i < count → right i

abbrev pub ClassesSize : List ℕ → Type 0
ClassesSize bs = Sized 19 256 (body_length (places_of bs).classes (places_of bs).slots)

abbrev pub SlotsSize : List ℕ → Type 0
SlotsSize bs = Sized 2 32 (body_length (places_of bs).slots (places_of bs).code)

abbrev pub CodeSize : List ℕ → Type 0
CodeSize bs = Sized 3 1024 (body_length (places_of bs).code (places_of bs).end)

abbrev pub ClassesRight : List ℕ → Type 0
ClassesRight bs = TableRight (ClassesSize bs) (layout_in bs).classes.count (ClassRight bs (layout_in bs))

abbrev pub SlotsRight : List ℕ → Type 0
SlotsRight bs = TableRight (SlotsSize bs) (layout_in bs).slots.count (SlotRight bs (layout_in bs))

abbrev pub CodeIsRight : List ℕ → Type 0
CodeIsRight bs = TableRight (CodeSize bs) (layout_in bs).code.count (CodeRight bs (layout_in bs))
