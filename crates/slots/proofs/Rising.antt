-- A join rose exactly if the height fell.
use Rattle.std.proofs.Common.{◌≡◌, ℕ, ltb, MatchBool, arith}
use lib.Count.{ones}
use Rattle.std.proofs.lemmas.Bool.Decides.{nat_tests}
use Rattle.slots_theory.specs.declared.set.SlotSet.{SlotSet}
use Rattle.slots_theory.specs.Sets.{intersection}
use Rattle.slots_theory.proofs.Bits.{same_or_fewer_ones}
use Rattle.slots_theory.proofs.Same.{same_set}

abbrev height : SlotSet → ℕ
height s = ones s.bits

pub rose_if_fell : (a b : SlotSet) (after before : ℕ) → after ≡ height (intersection a b) → before ≡ height a → MatchBool (ltb after before) (intersection a b ≡ a → ⊥) (intersection a b ≡ a)
rose_if_fell a b after before e f = grind (arith, nat_tests, same_set, same_or_fewer_ones a.bits b.bits)
