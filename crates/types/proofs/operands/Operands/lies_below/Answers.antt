use Rattle.std.proofs.Common.{◌≡◌, rules, tests, ◌∙◌, ne_eqb}
use Rattle.std.proofs.lemmas.Iterator.{YieldsList-from_slice, YieldsList-from_zip}
use Rattle.std.proofs.lemmas.Iterator.Search.{all_from_yields_List}
use Rattle.std.specs.List.{list_all, zip}
use Rattle.lattice.specs.Computing.{lies}
use Rattle.unit.specs.Model.{parts_of}
use Rattle.types.proofs.Upward.{below_all, below_unlike}
use Rattle.types.proofs.operands.Operands.lies_below.Goals as goal

pub returns-then-kinds-others : goal.returns-then-kinds-others
returns-then-kinds-others c =
    let p = parts_of c.args.unit.now in
    let ks = c.as_slice-kinds.result.now in
    let js = c.as_slice-others.result.now in
    let all : c.all.result ≡ list_all (λ q. lies p q.0 q.1) (zip ks js) =
    all_from_yields_List (λ q. lies p q.0 q.1) c.all.new.self _ _ c.all.ensures.ran
    (YieldsList-from_zip (YieldsList-from_slice ks cc) (YieldsList-from_slice js cc)) (λ x b q k. search (rules, tests)) in
    all ∙ below_all p c.args.self.now c.args.other.now ks js c.as_slice-kinds.ensures.kinds c.as_slice-others.ensures.kinds c.if-kinds-others.true

pub returns-else-kinds-others : goal.returns-else-kinds-others
returns-else-kinds-others c =
    ne_eqb _ _ c.if-kinds-others.false
    ∙ below_unlike (parts_of c.args.unit.now) c.args.self.now c.args.other.now _ _ c.as_slice-kinds.ensures.kinds c.as_slice-others.ensures.kinds
    c.if-kinds-others.false
