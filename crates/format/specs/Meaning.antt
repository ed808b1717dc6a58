-- What a reading's answer means. Bytes are read exactly if they are the encoding of parts that keep the rules, and they
-- determine those parts. A refusal names the first thing that is wrong: everything before it is right.
use Rattle.std.specs.Prelude.{◌≡◌, ℕ, ◌<◌, ◌≤◌, ◌⊎◌, List, length}
use Rattle.format.specs.declared.refusal.ReadError.{ReadError}
use Rattle.format.specs.declared.refusal.ReadError.TheVariants.{Framing, Head, Class, Slot, Code}
use Rattle.format.specs.Parts.{Parts}
use Rattle.format.specs.Encoding.{encode}
use Rattle.format.specs.Rules.{Keeps}
use Rattle.format.specs.Stages.{layout_in}
use Rattle.format.specs.Right.{FieldAt, FieldsUpTo, FrameRight, HeadRight, ClassRight, SlotRight, CodeRight, ClassesSize, SlotsSize, CodeSize, ClassesRight, SlotsRight}

-- bytes are the unit with these parts
pub record Encodes (bs : List ℕ) (p : Parts) : Type 0 where
  pub written : bs ≡ encode p
  pub keeps : Keeps p

-- bytes are the unit with these parts, and with no others
pub record IsUnit (bs : List ℕ) (p : Parts) : Type 0 where
  pub encodes : Encodes bs p
  pub only : (q : Parts) → Encodes bs q → q ≡ p

abbrev pub NoUnit : List ℕ → Type 0
NoUnit bs = (p : Parts) → Encodes bs p → ⊥

-- from this place on, the next of the four fields does not stand there, or all four stand before it and bytes are left
abbrev pub FramingWrong : List ℕ → ℕ → Type 0
FramingWrong bs place =
    ((tag : ℕ) × (tag ≤ 4) × FieldsUpTo bs tag place × ((next : ℕ) → FieldAt bs tag place next → ⊥))
    ⊎ (FieldsUpTo bs 5 place × (place < length bs))

-- the table's size is wrong, which is named as 0, or its size and all records before this one are right, and this is not
abbrev pub RecordWrong : Type 0 → ℕ → (ℕ → Type 0) → ℕ → Type 0
RecordWrong size count right i =
    ((i ≡ 0) × (size → ⊥)) ⊎ (size × (i < count) × ((j : ℕ) → j < i → right j) × (right i → ⊥))

abbrev pub FirstWrong : List ℕ → ReadError → Type 0
FirstWrong bs (Framing place) = FramingWrong bs place
FirstWrong bs Head = FrameRight bs × (HeadRight bs → ⊥)
FirstWrong bs (Class c) =
    FrameRight bs × HeadRight bs × RecordWrong (ClassesSize bs) (layout_in bs).classes.count (ClassRight bs (layout_in bs)) c
FirstWrong bs (Slot i) =
    FrameRight bs × HeadRight bs × ClassesRight bs
    × RecordWrong (SlotsSize bs) (layout_in bs).slots.count (SlotRight bs (layout_in bs)) i
FirstWrong bs (Code i) =
    FrameRight bs × HeadRight bs × ClassesRight bs × SlotsRight bs
    × RecordWrong (CodeSize bs) (layout_in bs).code.count (CodeRight bs (layout_in bs)) i
