use Rattle.std.proofs.Common.{◌≡◌, ℕ, List, Ok, sym, refl, ap, ◌∙◌}
use Rattle.std.proofs.lemmas.Result.{err_from_is_err_and}
use Rattle.format.specs.declared.layout.Layout.{Layout}
use Rattle.format.specs.Reading.{reading}
use Rattle.format.proofs.Meanings.{read_is_unit, refused_means}
use Rattle.unit.proofs.read.read.Goals as goal

-- the layout that the place holds is the one that was read
held : (bs : List ℕ) (read place : Layout) → reading bs ≡ Ok read → place ≡ read → reading bs ≡ Ok place
held bs read place e same = e ∙ ap Ok (sym same)

pub returns-in_err-layout : goal.returns-in_err-layout
returns-in_err-layout c =
    let p = err_from_is_err_and c.from_residual.result c.from_residual.ensures.1 in
    let e = sym c.layout.ensures.outcome ∙ c.in_err-layout.was in
    rw (p.1, p.2)
    (record { outcome = (e, refl); means = refused_means c.args.bytes.now c.in_err-layout.field-0.0 c.layout.ensures.bytes e })

-- `cc` and not `refl`, so that another place is refused at once, and not only once both readings are computed
pub returns : goal.returns
returns c =
    let e = sym c.layout.ensures.outcome ∙ c.in_ok-layout.was in
    record {
      outcome = (held c.args.bytes.now c.in_ok-layout.layout _ e (cc), (cc));
      means = read_is_unit c.args.bytes.now c.in_ok-layout.layout c.layout.ensures.bytes e;
    }
