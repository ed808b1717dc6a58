use Rattle.std.proofs.Common.{◌≡◌}
use Rattle.std.specs.Slice.Iter.{chunks_exact_rest, chunks_exact_size}
use Rattle.unit.specs.Model.{parts_of}
use Rattle.types.proofs.Reading.{ReadTo}
use Rattle.types.proofs.operands.Operands.read.Given as goal

abbrev pub invariant-loop-code : goal.invariant-loop-code
invariant-loop-code l = record {
  far : ReadTo (parts_of l.unit) l.bytes l.depth l.operands (chunks_exact_rest l.code-iterator);
  two : chunks_exact_size l.code-iterator ≡ 2;
}
