use Rattle.std.proofs.Common.{length, sym, ap, ◌∙◌, arith}
use Rattle.std.proofs.lemmas.List.{length-reverse}
use Rattle.unit.specs.Model.{parts_of}
use Rattle.kinds.proofs.Same.{equal_decides}
use Rattle.types.proofs.Cells.{unlike_kinds}
use Rattle.types.proofs.Upward.{join_unlike, joined_none, joined_more, joined_all}
use Rattle.types.proofs.operands.Operands.join.Goals as goal

pub returns-then-len : goal.returns-then-len
returns-then-len c =
    join_unlike (parts_of c.args.unit.now) _ _ (λ e. c.if-len.true (c.len.ensures.number ∙ e ∙ sym c.len-2.ensures.number))

pub loop-i-init : goal.loop-i-init
loop-i-init c = joined_none (parts_of c.args.unit.now) c.args.self.now c.args.other.now

pub replace-requires : goal.replace-requires
replace-requires c =
    let size = c.loop-i.invariant.size in
    let same = sym c.len.ensures.number ∙ c.if-len.false ∙ c.len-2.ensures.number in
    omega (arith, c.loop-i-test.true, ap length c.as_slice-other-items.ensures.kinds, length-reverse c.args.other.now)

pub loop-i-preserved : goal.loop-i-preserved
loop-i-preserved c =
    let same = sym c.len.ensures.number ∙ c.if-len.false ∙ c.len-2.ensures.number in
    joined_more (parts_of c.args.unit.now) c.args.self.now c.args.other.now _ _ c.as_slice-kinds.ensures.kinds
    c.as_slice-other-items.ensures.kinds c.loop-i.i c.loop-i.joined c.replace.new.self c.join-kind.result c.loop-i.rose
    c.ne-rose.result c.loop-i.invariant same c.loop-i-test.true c.join-kind.ensures.value
    (unlike_kinds equal_decides c.join-kind.result _ c.ne-rose.result c.ne-rose.ensures) c.replace.ensures

pub returns : goal.returns
returns c =
    let same = sym c.len.ensures.number ∙ c.if-len.false ∙ c.len-2.ensures.number in
    joined_all (parts_of c.args.unit.now) c.args.self.now c.args.other.now _ _ c.as_slice-kinds.ensures.kinds
    c.as_slice-other-items.ensures.kinds c.loop-i.i c.loop-i.joined c.loop-i.rose c.loop-i.invariant same c.loop-i-test.false
