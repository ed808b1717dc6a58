use Rattle.std.proofs.Common.{◌≡◌, ◌<◌, length, set, reverse, take, sym, ap, ◌∙◌, arith}
use Rattle.std.proofs.lemmas.List.{reverse-reverse}
use Rattle.std.proofs.Math.Seq.{take-set-lt}
use Rattle.types.specs.Cells.{stack_length, stack_in}
use Rattle.types.proofs.operands.Operands.replace.Goals as goal

pub returns : goal.returns
returns c =
    let view : stack_in c.self.inside ≡ c.args.self.now = c.self.view_is in
    let below : c.args.at < c.self.inside.depth =
    omega (arith, c.requires, ap length view, stack_length c.self.inside c.self.invariant) in
    ap reverse
    (take-set-lt c.self.inside.depth c.self.inside.kinds c.args.at c.args.kind below
    ∙ ap (λ xs. set xs c.args.at c.args.kind) (sym (reverse-reverse (take c.self.inside.depth c.self.inside.kinds)) ∙ ap reverse view))
