-- Reading a unit, in the order in which its faults are named: all framing first, then the head, the classes, the slots and
-- the code, in each table first its size and then its records from the lowest.
use Rattle.std.specs.Prelude.{◌≡◌, ℕ, ◌+◌, ◌-◌, ◌/◌, ◌%◌, ◌≤◌, Bool, true, false, ◌&&◌, List, [], ◌∷◌, length, Some, None, Ok, Err, Option, Result, ◌==◌, nat_le, nat_lt}
use Rattle.format.specs.declared.layout.Frame.{Frame}
use Rattle.format.specs.declared.layout.Layout.{Layout}
use Rattle.format.specs.declared.layout.Span.{Span}
use Rattle.format.specs.declared.refusal.ReadError.{ReadError}
use Rattle.format.specs.declared.refusal.ReadError.TheVariants.{Framing, Head, Class, Slot, Code}
use Rattle.format.specs.Bytes.{byte_at, word_at, first_failing}
use Rattle.format.specs.Tests.{class_readable, slot_readable, instruction_readable}

-- goes on where a test passes
abbrev pub guard : {A : Type 0} → Bool → ReadError → Result A ReadError → Result A ReadError
guard true e r = r
guard false e r = Err e

-- goes on where nothing was found to be wrong
abbrev pub unless : {A : Type 0} → Option ℕ → (ℕ → ReadError) → Result A ReadError → Result A ReadError
unless None e r = r
unless (Some i) e r = Err (e i)

-- whether a field with this tag stands whole at a place
abbrev pub framed_at : List ℕ → ℕ → ℕ → Bool
framed_at bs tag at =
    nat_le (at + 3) (length bs) && (byte_at bs at == tag && nat_le (at + 3 + word_at bs (at + 1)) (length bs))

-- where the field ends that starts at a place
abbrev pub field_end : List ℕ → ℕ → ℕ
field_end bs at = at + 3 + word_at bs (at + 1)

-- where the four fields lie, if each ends where its length says
abbrev pub places_of : List ℕ → Frame
places_of bs =
    record {
      classes = field_end bs 0;
      slots = field_end bs (field_end bs 0);
      code = field_end bs (field_end bs (field_end bs 0));
      end = field_end bs (field_end bs (field_end bs (field_end bs 0)));
    }

-- the four fields stand one after another, and nothing after them
abbrev pub read_frame : {A : Type 0} → List ℕ → Result A ReadError → Result A ReadError
read_frame bs rest =
    guard (framed_at bs 1 0) (Framing 0) (
    guard (framed_at bs 2 (places_of bs).classes) (Framing (places_of bs).classes) (
    guard (framed_at bs 3 (places_of bs).slots) (Framing (places_of bs).slots) (
    guard (framed_at bs 4 (places_of bs).code) (Framing (places_of bs).code) (
    guard ((places_of bs).end == length bs) (Framing (places_of bs).end) rest))))

-- that the places of a frame lie one after another, in so many bytes
pub record Framed (n : ℕ) (f : Frame) : Type 0 where
  pub head : 3 ≤ f.classes
  pub classes : f.classes + 3 ≤ f.slots
  pub slots : f.slots + 3 ≤ f.code
  pub code : f.code + 3 ≤ f.end
  pub whole : f.end ≡ n

-- two bytes, the version 1 and a depth of at most 16
abbrev pub head_reads : List ℕ → Frame → Bool
head_reads bs f = f.classes == 5 && (byte_at bs 3 == 1 && nat_le (byte_at bs 4) 16)

-- how long the contents of a field are that starts at a place, where the next starts at another
abbrev pub body_length : ℕ → ℕ → ℕ
body_length at next = next - (at + 3)

-- whether contents of this length are at least one and at most so many records of a width
abbrev pub sized : ℕ → ℕ → ℕ → Bool
sized width most n = nat_lt 0 n && (n % width == 0 && nat_le (n / width) most)

abbrev pub span : ℕ → ℕ → ℕ → Span
span width at next = record { start = at + 3; count = body_length at next / width }

abbrev pub layout_of : List ℕ → Frame → Layout
layout_of bs f =
    record {
      depth = byte_at bs 4;
      classes = span 19 f.classes f.slots;
      slots = span 2 f.slots f.code;
      code = span 3 f.code f.end;
    }

-- a table of records: first its size, whose place is 0, then each record's own test, from the lowest
abbrev pub read_table : {A : Type 0} → Bool → ℕ → (ℕ → Bool) → (ℕ → ReadError) → Result A ReadError → Result A ReadError
read_table right count test error rest = guard right (error 0) (unless (first_failing test 0 count) error rest)

abbrev pub classes_sized : Frame → Bool
classes_sized f = sized 19 256 (body_length f.classes f.slots)

abbrev pub slots_sized : Frame → Bool
slots_sized f = sized 2 32 (body_length f.slots f.code)

abbrev pub code_sized : Frame → Bool
code_sized f = sized 3 1024 (body_length f.code f.end)

abbrev pub read_classes : {A : Type 0} → List ℕ → Frame → Result A ReadError → Result A ReadError
read_classes bs f = read_table (classes_sized f) (layout_of bs f).classes.count (class_readable bs (layout_of bs f).classes) Class

abbrev pub read_slots : {A : Type 0} → List ℕ → Frame → Result A ReadError → Result A ReadError
read_slots bs f =
    read_table (slots_sized f) (layout_of bs f).slots.count (slot_readable bs (layout_of bs f).classes.count (layout_of bs f).slots) Slot

abbrev pub read_code : {A : Type 0} → List ℕ → Frame → Result A ReadError → Result A ReadError
read_code bs f = read_table (code_sized f) (layout_of bs f).code.count (instruction_readable bs (layout_of bs f)) Code

abbrev pub contents : List ℕ → Frame → Result Layout ReadError
contents bs f =
    guard (head_reads bs f) Head (read_classes bs f (read_slots bs f (read_code bs f (Ok (layout_of bs f)))))

abbrev pub reading : List ℕ → Result Layout ReadError
reading bs = read_frame bs (contents bs (places_of bs))

-- a layout as a list of numbers, which a struct's invariant can equate
abbrev pub spread : Layout → List ℕ
spread l =
    l.depth ∷ l.classes.start ∷ l.classes.count ∷ l.slots.start ∷ l.slots.count ∷ l.code.start ∷ l.code.count ∷ []

abbrev pub layout_numbers : Result Layout ReadError → List ℕ
layout_numbers (Ok l) = spread l
layout_numbers (Err e) = []
