-- What it takes for bytes to be read: every test of the reading passes.
use Rattle.std.specs.Prelude.{◌≡◌, ℕ, ◌<◌, Bool, true, List, length}
use Rattle.format.specs.declared.layout.Layout.{Layout}
use Rattle.format.specs.Tests.{class_readable, slot_readable, instruction_readable}
use Rattle.format.specs.Reading.{framed_at, places_of, head_reads, classes_sized, slots_sized, code_sized, layout_of}

-- where the parts lie
abbrev pub layout_in : List ℕ → Layout
layout_in bs = layout_of bs (places_of bs)

-- the four fields stand one after another and fill the bytes
pub record FramePasses (bs : List ℕ) : Type 0 where
  pub first : framed_at bs 1 0 ≡ true
  pub second : framed_at bs 2 (places_of bs).classes ≡ true
  pub third : framed_at bs 3 (places_of bs).slots ≡ true
  pub fourth : framed_at bs 4 (places_of bs).code ≡ true
  pub whole : (places_of bs).end ≡ length bs

-- a table's size is right, and each of its records passes its test
pub record TablePasses (right : Bool) (count : ℕ) (test : ℕ → Bool) : Type 0 where
  pub are_sized : right ≡ true
  pub each : (i : ℕ) → i < count → test i ≡ true

abbrev pub ClassesPass : List ℕ → Type 0
ClassesPass bs = TablePasses (classes_sized (places_of bs)) (layout_in bs).classes.count (class_readable bs (layout_in bs).classes)

abbrev pub SlotsPass : List ℕ → Type 0
SlotsPass bs =
    TablePasses (slots_sized (places_of bs)) (layout_in bs).slots.count
    (slot_readable bs (layout_in bs).classes.count (layout_in bs).slots)

abbrev pub CodePasses : List ℕ → Type 0
CodePasses bs = TablePasses (code_sized (places_of bs)) (layout_in bs).code.count (instruction_readable bs (layout_in bs))

pub record Passes (bs : List ℕ) : Type 0 where
  pub framed : FramePasses bs
  pub head : head_reads bs (places_of bs) ≡ true
  pub classes : ClassesPass bs
  pub slots : SlotsPass bs
  pub code : CodePasses bs
