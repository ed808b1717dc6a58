use Rattle.std.proofs.Common.{◌<◌, length, arith}
use Rattle.unit.specs.Model.{parts_of}
use Rattle.flow.proofs.Entering.{read_was, entry_read, entry_left}
use Rattle.flow.proofs.fields.Fields.entry.Goals as goal

pub returns-then-length-size-clause-value : goal.returns-then-length-size-clause-value
returns-then-length-size-clause-value g c =
    let self = c.args.self.now in
    let p = parts_of self.unit.now in
    let m = g.A.Analysis.meaning self.analysis.now p in
    let inside : c.word-at.result < length p.code = omega (arith, c.if-at-code_len.false, c.code_len.ensures.value) in
    entry_read p m self.bytes.now self.place self.least c.word-at.result c.word-size.result c.if-not-framed.ensures
    c.word-size.ensures c.word-at.ensures c.if-at-self.false inside c.in_ok-state.state c.in_ok-state.length
    (read_was _ _ _ _ c.read.ensures.value c.in_ok-state.ensures.cases) c.if-length-size.true

pub returns-else-length-size-clause-value : goal.returns-else-length-size-clause-value
returns-else-length-size-clause-value g c =
    let self = c.args.self.now in
    let p = parts_of self.unit.now in
    let m = g.A.Analysis.meaning self.analysis.now p in
    let inside : c.word-at.result < length p.code = omega (arith, c.if-at-code_len.false, c.code_len.ensures.value) in
    entry_left p m self.bytes.now self.place self.least c.word-at.result c.word-size.result c.if-not-framed.ensures
    c.word-size.ensures c.word-at.ensures c.if-at-self.false inside c.in_ok-state.state c.in_ok-state.length
    (read_was _ _ _ _ c.read.ensures.value c.in_ok-state.ensures.cases) c.if-length-size.false
