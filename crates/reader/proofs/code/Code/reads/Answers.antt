use Rattle.std.proofs.Common.{◌≡◌, ℕ, ◌<◌, true, ◌&&◌, ltb, List, sym, ap, ◌∙◌}
use Rattle.std.proofs.lemmas.Bool.{lt-ltb}
use Rattle.opcodes.specs.declared.opcode.Sort.{Sort}
use Rattle.opcodes.specs.Table.{Line, line_at}
use Rattle.opcodes.proofs.TableRules.{line_at_opcode, numbered_ok}
use Rattle.format.specs.declared.layout.Layout.{Layout}
use Rattle.format.specs.Tests.{names_test}
use Rattle.reader.proofs.code.Code.reads.Goals as goal

at_number : (bs : List ℕ) (l : Layout) (b n w : ℕ) (s : Sort) → b < 15 → s ≡ (line_at b).sort → w ≡ n → names_test bs l s w ≡ (ltb b 15 && names_test bs l (line_at b).sort n)
at_number bs l b n w s h e f = let t : ltb b 15 ≡ true = lt-ltb b 15 h in rw (t, e, f)

pub returns-in-Ok : goal.returns-in-Ok
returns-in-Ok c =
    let k = line_at_opcode _ _ (numbered_ok _ _ (sym c.in-Ok.ensures)) in
    c.names.ensures
    ∙ at_number c.args.self.bytes.now c.args.self.layout _ _ _ _ k.0 (c.row.ensures.sort ∙ ap (λ (l : Line). l.sort) k.1) c.word.ensures
