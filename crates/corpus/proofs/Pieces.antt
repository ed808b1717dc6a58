-- One piece taken after another.
use Rattle.std.proofs.Common.{◌≡◌, ℕ, ◌+◌, ◌≤◌, List, length, Some, ap, arith, length-drop, drop-drop, Bor}
use Rattle.corpus.specs.declared.cursor.Cursor.{Cursor}
use Rattle.corpus.specs.Taking.{Takes, TakesPart, IsPart, left}

-- a number n is taken from the first k bytes, and then as many bytes as it says
pub as_many : (k n m : ℕ) (part : Bor (List ℕ)) (before mid after : Cursor) → Takes k (λ x. x ≡ n) before (Some m) mid → TakesPart m mid (Some part) after → Takes (k + n) (IsPart k n (left before)) before (Some part) after
as_many k n m part before mid after (long, says, mid_is) (enough, part_is, after_is) =
    let sum : k + n ≤ length (left before) = omega (arith, says, ap length mid_is, length-drop k (left before)) in
    (sum, rw (says, mid_is) at part_is, rw (says, mid_is, drop-drop n k (left before)) at after_is)
