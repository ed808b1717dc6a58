use Rattle.std.proofs.Common.{◌≡◌, rules, sym, ◌∙◌}
use Rattle.unit.specs.Model.{parts_of}
use Rattle.format.specs.Bytes.{byte_at}
use Rattle.types.proofs.Reading.{read_more, unread}
use Rattle.types.proofs.operands.Operands.read.Goals as goal

pub returns-then-not-known-clause-value : goal.returns-then-not-known-clause-value
returns-then-not-known-clause-value c =
    let bs = c.args.bytes.now in
    let step = c.in-Some-code.ensures.steps in
    let depth : c.from-depth.result ≡ byte_at bs 0 = search rules in
    unread (parts_of c.args.unit.now) bs c.from-depth.result c.loop-code.operands c.in-Some-code.code.now _ _ c.loop-code.invariant.far
    (step.1.1 ∙ c.loop-code.invariant.two) step.1.0 c.from_be_bytes.result c.from-kind.result c.from_be_bytes.ensures
    c.from-kind.ensures depth (sym c.known.ensures ∙ c.if-not-known.true)

pub loop-code-preserved : goal.loop-code-preserved
loop-code-preserved c =
    let step = c.in-Some-code.ensures.steps in
    let more =
    read_more (parts_of c.args.unit.now) c.args.bytes.now c.from-depth.result c.loop-code.operands c.in-Some-code.code.now _ _
    c.loop-code.invariant.far (step.1.1 ∙ c.loop-code.invariant.two) step.1.0 c.from_be_bytes.result c.from-kind.result
    c.from_be_bytes.ensures c.from-kind.ensures (sym c.known.ensures ∙ c.if-not-known.false) in
    record { far = rw c.push.ensures more; two = step.0 ∙ c.loop-code.invariant.two }
