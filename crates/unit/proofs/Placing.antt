-- What stands at the place of a record: what the unit's parts have there.
use Rattle.std.proofs.Common.{ℕ, ◌<◌, ◌≤◌, Option, Some, None, ap, arith}
use Rattle.format.specs.Parts.{ClassParts}
use Rattle.format.proofs.Bounds.{kept_bounds}
use Rattle.format.proofs.Views.{class_count, class_view, field_count_view, slot_count, slot_view, code_count, instruction_view}
use Rattle.unit.specs.declared.unit.Unit.{Unit}
use Rattle.unit.specs.Places.{RecordPlace, ClassPlace, SlotPlace, InstructionPlace}

pub class_placed : (u : Unit) (c : ℕ) (r : Option ℕ) → RecordPlace u.layout.classes 19 c r → ClassPlace u c r
class_placed u c (Some at) h =
    let b = kept_bounds u.bytes.now u.layout u.reads in
    let l : c < u.layout.classes.count = h.0 in
    rw h.1 (
      omega (arith, class_count u.bytes.now u.layout),
      omega arith,
      class_view u.bytes.now u.layout c l,
      ap (λ (x : ClassParts). x.parent) (class_view u.bytes.now u.layout c l),
      field_count_view u.bytes.now u.layout c l,
      b.few_fields c l,
    )
class_placed u c None h = let l : u.layout.classes.count ≤ c = h in omega (arith, class_count u.bytes.now u.layout)

pub slot_placed : (u : Unit) (i : ℕ) (r : Option ℕ) → RecordPlace u.layout.slots 2 i r → SlotPlace u i r
slot_placed u i (Some at) h =
    let b = kept_bounds u.bytes.now u.layout u.reads in
    let l : i < u.layout.slots.count = h.0 in
    rw h.1 (omega (arith, slot_count u.bytes.now u.layout), omega arith, slot_view u.bytes.now u.layout i l)
slot_placed u i None h = let l : u.layout.slots.count ≤ i = h in omega (arith, slot_count u.bytes.now u.layout)

pub instruction_placed : (u : Unit) (i : ℕ) (r : Option ℕ) → RecordPlace u.layout.code 3 i r → InstructionPlace u i r
instruction_placed u i (Some at) h =
    let b = kept_bounds u.bytes.now u.layout u.reads in
    let l : i < u.layout.code.count = h.0 in
    rw h.1 (omega (arith, code_count u.bytes.now u.layout), omega arith, instruction_view u.bytes.now u.layout i l, b.opcodes_exist i l)
instruction_placed u i None h = let l : u.layout.code.count ≤ i = h in omega (arith, code_count u.bytes.now u.layout)
