use Rattle.std.proofs.Common.{Err, ap, ◌∙◌, arith}
use Rattle.std.proofs.lemmas.Result.{err_from_is_err_and}
use Rattle.unit.specs.Model.{parts_of}
use Rattle.types.proofs.Taking.{upper, lower}
use Rattle.types.proofs.operands.Operands.take.Goals as goal

pub returns-in_err-take_one-in-Two : goal.returns-in_err-take_one-in-Two
returns-in_err-take_one-in-Two c =
    let context = c.args.context.now in
    let q = err_from_is_err_and c.from_residual.result c.from_residual.ensures.1 in
    let mid = c.take_one-in-Two.new.self in
    rw c.in-Two.is
    (upper (parts_of context.unit.now) context.number c.in-Two.lower c.in-Two.upper c.from_residual.result mid c.args.self.now mid
    c.in_err-take_one-in-Two.field-0.0 (omega (arith, c.if-len-lt2.false, c.len.ensures.number)) c.in_err-take_one-in-Two.ensures
    (q.1 ∙ ap Err q.2))

pub returns-in_ok-take_one-in-Two : goal.returns-in_ok-take_one-in-Two
returns-in_ok-take_one-in-Two c =
    let context = c.args.context.now in
    rw c.in-Two.is
    (lower (parts_of context.unit.now) context.number c.in-Two.lower c.in-Two.upper c.take_one-in-Two-2.result
    c.take_one-in-Two-2.new.self c.args.self.now c.take_one-in-Two.new.self
    (omega (arith, c.if-len-lt2.false, c.len.ensures.number)) c.in_ok-take_one-in-Two.ensures c.take_one-in-Two-2.ensures)
