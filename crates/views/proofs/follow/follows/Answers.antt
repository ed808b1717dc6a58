use Rattle.std.proofs.Common.{ap, ⊎_elim}
use Rattle.opcodes.specs.TableRule.{jumps}
use Rattle.unit.specs.Model.{parts_of}
use Rattle.views.proofs.Onward.{onward_jump, onward_next}
use Rattle.views.proofs.follow.follows.Goals as goal

pub returns-in-Jump : goal.returns-in-Jump
returns-in-Jump c =
    let j = ⊎_elim (λ is. ap jumps is) (λ is. ap jumps is) c.in-Jump.is in
    let k = onward_jump (parts_of c.args.unit.now) c.args.at c.in_ok-instruction.instruction c.row.result.ways c.in_ok-instruction.ensures c.row.ensures.ways j in
    record { value = k.0; leads = k.1 }

pub returns-in-Next : goal.returns-in-Next
returns-in-Next c =
    let k = onward_next (parts_of c.args.unit.now) c.args.at c.in_ok-instruction.instruction c.row.result.ways c.in_ok-instruction.ensures c.row.ensures.ways c.in-Next.is in
    record { value = k.0; leads = k.1 }
