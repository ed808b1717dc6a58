use Rattle.format.proofs.Bounds.{kept_bounds}
use Rattle.format.proofs.Views.{class_count, slot_count, code_count, parents_lower}
use Rattle.unit.proofs.unit.Unit.tables.Goals as goal

pub returns : goal.returns
returns c =
    let b = kept_bounds c.args.self.now.bytes.now c.args.self.now.layout c.args.self.now.reads in
    record {
      classes = class_count c.args.self.now.bytes.now c.args.self.now.layout;
      slots = slot_count c.args.self.now.bytes.now c.args.self.now.layout;
      code = code_count c.args.self.now.bytes.now c.args.self.now.layout;
      shallow = b.shallow;
      some_classes = b.some_classes;
      few_classes = b.few_classes;
      some_slots = b.some_slots;
      few_slots = b.few_slots;
      some_code = b.some_code;
      few_code = b.few_code;
      lower = parents_lower c.args.self.now.bytes.now c.args.self.now.layout b;
    }
