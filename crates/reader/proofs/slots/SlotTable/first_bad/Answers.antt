use Rattle.std.proofs.Common.{rules}
use borrow.Author.Tests.{tests}
use Rattle.format.proofs.Finding.{find_failing, told}
use Rattle.reader.proofs.slots.SlotTable.first_bad.Goals as goal

pub returns : goal.returns
returns c =
    find_failing _ _ _ _ _ c.find.ensures.ran (λ x q k. search (rules, tests, told)) (λ x q k. search (rules, tests, told))
