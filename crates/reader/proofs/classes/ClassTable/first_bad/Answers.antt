use Rattle.std.proofs.Common.{rules}
use borrow.Author.Tests.{tests}
use Rattle.format.specs.Tests.{class_readable}
use Rattle.format.proofs.Ranges.{fails_after, passes_after}
use Rattle.format.proofs.Finding.{find_failing}
use Rattle.reader.proofs.classes.ClassTable.first_bad.Goals as goal

pub returns : goal.returns
returns c =
    find_failing (class_readable c.args.self.bytes.now c.args.self.span) _ _ _ _ c.find.ensures.ran (λ x q k. search (rules, tests, fails_after))
    (λ x q k. search (rules, tests, passes_after))
