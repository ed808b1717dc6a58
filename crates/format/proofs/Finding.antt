-- What `find` over a range of numbers answers, from what its closure says of each.
use Rattle.std.proofs.Common.{◌≡◌, ℕ, Bool, true, false, List, Option, MatchOption, sym}
use denote.Param.Members.{Mut}
use denote.Ref.{Bor}
use Rattle.std.specs.declared.ops.Range.{Range}
use Rattle.std.specs.Bool.{⊤}
use Rattle.std.specs.Fn.{CalledAt}
use Rattle.std.specs.Iterator.{YieldsThen}
use Rattle.std.specs.List.{FoldsTo}
use Rattle.std.proofs.iter.Yields.{nat_range_steps}
use Rattle.std.proofs.lemmas.Iterator.{first_from_Range}
use Rattle.format.specs.Bytes.{first_failing, Follows}
use Rattle.format.proofs.Ranges.{first_found_after}

-- what a test gives follows, whatever it gives before
pub told : (f : ℕ → Bool) (k : ℕ) (b : Bool) → f k ≡ b → Follows f k b
told f k b e = record { after = λ _. sym e }

-- `find` over the numbers below n gives the first at which a test fails, where the closure's `true` tells that it fails there and its
-- `false` that it passes, each of them said of numbers that follow those at which it passes
pub find_failing : {F : Type 0} {g : Mut F (Bor ℕ × Unit {0}) Bool} (f : ℕ → Bool) (n : ℕ) (u : Range ℕ) (h : F) (r : Option ℕ)
    → (xs : List ℕ) × (j : F) × YieldsThen nat_range_steps (record { start = 0; end = n }) xs r u × FoldsTo (λ p x q. CalledAt g p x false q) h xs j × MatchOption r ⊤ (λ x. (k : F) × CalledAt g j x true k)
    → ((x : ℕ) (q : F) → CalledAt g h x true q → Follows f x false) → ((x : ℕ) (q : F) → CalledAt g h x false q → (q ≡ h) × Follows f x true)
    → r ≡ first_failing f 0 n
find_failing f n u h r ran fails passes =
    first_found_after f n r (first_from_Range _ u h r (λ i. Follows f i false) (λ i. Follows f i true) ran fails passes)
