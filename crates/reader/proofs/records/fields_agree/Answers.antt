use Rattle.std.proofs.Common.{rules, ◌≡◌, true, false, ◌&&◌, refl, sym, ap, ◌∙◌}
use Rattle.std.proofs.lemmas.Iterator.{YieldsList-from_range, cases_from_all}
use borrow.Author.Tests.{tests}
use Rattle.format.specs.Bytes.{up_to}
use Rattle.format.proofs.Ranges.{all_found}
use Rattle.reader.proofs.Passes.{inherited, own, passes}
use Rattle.reader.proofs.records.fields_agree.Goals as goal

pub returns-then-all : goal.returns-then-all
returns-then-all c =
    let bs = c.args.bytes.now in
    let g = inherited bs c.args.at c.args.up c.args.n in
    let h = own bs c.args.classes c.args.at c.args.n in
    let first : c.all.result ≡ up_to 8 g = all_found g 8 _ (cases_from_all _ _ _ (λ i. g i ≡ true) (λ i. g i ≡ false) c.all.ensures.ran (YieldsList-from_range 0 8 8 refl refl) (λ x q k. search (rules, tests)) (λ x q k. search (rules, tests))) in
    let second : c.all-then-all.result ≡ up_to 8 h = all_found h 8 _ (cases_from_all _ _ _ (λ i. h i ≡ true) (λ i. h i ≡ false) c.all-then-all.ensures.ran (YieldsList-from_range 0 8 8 refl refl) (λ x q k. search (rules, tests)) (λ x q k. search (rules, tests))) in
    second ∙ ap (λ b. b && up_to 8 h) (sym c.if-all.true ∙ first) ∙ passes bs c.args.classes c.args.at c.args.up c.args.n

pub returns-else-all : goal.returns-else-all
returns-else-all c =
    let bs = c.args.bytes.now in
    let g = inherited bs c.args.at c.args.up c.args.n in
    let h = own bs c.args.classes c.args.at c.args.n in
    let first : c.all.result ≡ up_to 8 g = all_found g 8 _ (cases_from_all _ _ _ (λ i. g i ≡ true) (λ i. g i ≡ false) c.all.ensures.ran (YieldsList-from_range 0 8 8 refl refl) (λ x q k. search (rules, tests)) (λ x q k. search (rules, tests))) in
    c.if-all.false ∙ ap (λ b. b && up_to 8 h) (sym c.if-all.false ∙ first) ∙ passes bs c.args.classes c.args.at c.args.up c.args.n
