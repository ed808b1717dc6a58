-- The parts that a read unit stands for: what its bytes say at the places of its layout.
use Rattle.std.specs.Prelude.{ℕ, cond, ◌&&◌, length, Some, None, Option, nat_lt}
use Rattle.kinds.specs.declared.kind.Kind.{Kind}
use Rattle.unit.specs.declared.unit.Unit.{Unit}
use Rattle.format.specs.Parts.{Parts, field_count, field_of}
use Rattle.format.specs.Decoding.{parts_at}

abbrev pub parts_of : Unit → Parts
parts_of u = parts_at u.bytes.now u.layout

-- the kind of a field, where there are such a class and field
abbrev pub field_in : Parts → ℕ → ℕ → Option Kind
field_in p c k = cond (nat_lt c (length p.classes) && nat_lt k (field_count p c)) (Some (field_of p c k)) None
