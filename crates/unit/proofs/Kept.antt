-- A unit keeps the rules, since its bytes read as its layout.
use Rattle.format.specs.Bytes.{AllBytes}
use Rattle.format.specs.Rules.{Keeps}
use Rattle.format.proofs.Passing.{kept_reading}
use Rattle.format.proofs.Meanings.{read_is_unit}
use Rattle.unit.specs.declared.unit.Unit.{Unit}
use Rattle.unit.specs.Model.{parts_of}

pub unit_keeps : (u : Unit) → AllBytes u.bytes.now → Keeps (parts_of u)
unit_keeps u bytes =
    (read_is_unit u.bytes.now u.layout bytes (kept_reading u.bytes.now u.layout u.reads)).encodes.keeps
