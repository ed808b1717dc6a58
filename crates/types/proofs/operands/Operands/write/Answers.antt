use Rattle.std.proofs.Common.{ap, ◌∙◌, arith}
use Rattle.format.specs.Bytes.{word}
use Rattle.types.proofs.Coding.{code_bytes, coded_more, coded_short}
use Rattle.types.proofs.operands.Operands.write.Goals as goal

pub returns-then-out-length : goal.returns-then-out-length
returns-then-out-length c =
    let kinds = c.as_slice-kinds in
    let u = coded_short c.args.self.now kinds.result.now c.args.out.now kinds.ensures.kinds kinds.ensures.few c.if-out-length.true in
    record { length = u.length; buffer = u.buffer }

pub loop-i-preserved : goal.loop-i-preserved
loop-i-preserved c =
    coded_more c.as_slice-kinds.result.now c.args.out.now c.loop-i.out c.copy_from_slice.new.self c.loop-i.i _ c.loop-i.invariant
    c.loop-i-test.true (omega arith)
    (c.copy_from_slice.ensures.after ∙ c.to_be_bytes.ensures ∙ code_bytes c.from.result c.from.type_inv ∙ ap word c.from.ensures)
