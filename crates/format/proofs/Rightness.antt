-- Each stage of a reading passes exactly if what it looks at is right.
use Rattle.std.proofs.Common.{ℕ, ◌<◌, ◌≤◌, Bool, List, length, Decides, arith}
use native.Mathlib.Nat.{mul-div-le}
use Rattle.format.specs.Bytes.{AllBytes}
use Rattle.format.specs.Tests.{class_readable, slot_readable, instruction_readable}
use Rattle.format.specs.Reading.{places_of, Framed, sized, body_length}
use Rattle.format.specs.Stages.{layout_in, FramePasses, TablePasses, ClassesPass, SlotsPass, CodePasses}
use Rattle.format.specs.Right.{Sized, ClassRight, SlotRight, CodeRight, TableRight, ClassesSize, ClassesRight, SlotsRight, CodeIsRight}
use Rattle.format.proofs.Bounds.{places_framed}
use Rattle.format.proofs.Sizes.{sized_right, right_sized, right_count}
use Rattle.format.proofs.ClassRecords.{class_decides}
use Rattle.format.proofs.SlotRecords.{slot_decides}
use Rattle.format.proofs.CodeRecords.{code_decides}

pub decides_sized : (w most n : ℕ) → 0 < w → Decides (sized w most n) (Sized w most n)
decides_sized w most n p = (sized_right w most n, right_sized w most n p)

-- a table's records, where its size is right
pub table_decides : (test : Bool) (size : Type 0) (count : ℕ) (reads : ℕ → Bool) (right : ℕ → Type 0) → Decides test size → (size → (i : ℕ) → i < count → Decides (reads i) (right i)) → (TablePasses test count reads → TableRight size count right) × (TableRight size count right → TablePasses test count reads)
table_decides test size count reads right s each = (
  λ p. record { size_right = s.0 p.are_sized; each = λ i l. (each (s.0 p.are_sized) i l).0 (p.each i l) },
  λ r. record { are_sized = s.1 r.size_right; each = λ i l. (each r.size_right i l).1 (r.each i l) },
)

module _ (bs : List ℕ) (bytes : AllBytes bs) (f : FramePasses bs) where
  order : Framed (length bs) (places_of bs)
  order = places_framed bs f

  few_classes : ClassesSize bs → (layout_in bs).classes.count ≤ 256
  few_classes s = omega (arith, right_count 19 256 (body_length (places_of bs).classes (places_of bs).slots) (omega arith) s, s.few)

  pub class_at : ClassesSize bs → (c : ℕ) → c < (layout_in bs).classes.count → Decides (class_readable bs (layout_in bs).classes c) (ClassRight bs (layout_in bs) c)
  class_at s c h =
      class_decides bs (layout_in bs) c bytes (few_classes s) h
      (omega (arith, order, mul-div-le (body_length (places_of bs).classes (places_of bs).slots) 19))

  pub slot_at : ClassesSize bs → (i : ℕ) → i < (layout_in bs).slots.count → Decides (slot_readable bs (layout_in bs).classes.count (layout_in bs).slots i) (SlotRight bs (layout_in bs) i)
  slot_at s i h =
      slot_decides bs (layout_in bs) i bytes (few_classes s) h
      (omega (arith, order, mul-div-le (body_length (places_of bs).slots (places_of bs).code) 2))

  pub instruction_at_decides : (i : ℕ) → i < (layout_in bs).code.count → Decides (instruction_readable bs (layout_in bs) i) (CodeRight bs (layout_in bs) i)
  instruction_at_decides i h =
      code_decides bs (layout_in bs) i bytes h
      (omega (arith, order, mul-div-le (body_length (places_of bs).code (places_of bs).end) 3))

  pub classes_decide : (ClassesPass bs → ClassesRight bs) × (ClassesRight bs → ClassesPass bs)
  classes_decide = table_decides _ _ _ _ _ (decides_sized 19 256 _ (omega arith)) class_at

  pub slots_decide : ClassesSize bs → (SlotsPass bs → SlotsRight bs) × (SlotsRight bs → SlotsPass bs)
  slots_decide s = table_decides _ _ _ _ _ (decides_sized 2 32 _ (omega arith)) (λ _. slot_at s)

  pub code_decide : (CodePasses bs → CodeIsRight bs) × (CodeIsRight bs → CodePasses bs)
  code_decide = table_decides _ _ _ _ _ (decides_sized 3 1024 _ (omega arith)) (λ _. instruction_at_decides)
