use Rattle.std.proofs.Common.{ap, ◌∙◌}
use Rattle.kinds.specs.Codes.{kind_of}
use Rattle.unit.specs.Model.{parts_of}
use Rattle.unit.proofs.Fields.{field_here}
use Rattle.unit.proofs.unit.Unit.field.Goals as goal

pub returns : goal.returns
returns c =
    field_here (parts_of c.args.self.now) c.args.self.now.bytes.now c.in_ok-at.at c.args.class c.args.field
    c.in_ok-at.ensures.2 c.from.result c.in_ok-at.ensures.0 c.if-field-self.false
    (c.from.ensures ∙ ap kind_of c.word.ensures)
