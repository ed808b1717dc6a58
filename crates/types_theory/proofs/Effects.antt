-- What is accepted of a stack is accepted of every stack below, with a stack below after it; and the kinds stay known.
use Rattle.std.proofs.Common.{◌≡◌, ℕ, Bool, true, false, cond, ltb, leb, List, length, Some, None, Ok, Err, Option, Result, sym, refl, subst, arith}
use Rattle.kinds.specs.declared.kind.Kind.{Kind}
use Rattle.opcodes.specs.declared.opcode.Shape.{Shape}
use Rattle.opcodes.specs.declared.opcode.Shape.TheVariants.{Int as AnInt, Null as ANull, Ref as ARef, Any as AnyValue, OfSlot, OfClass, OfOwner, OfField}
use Rattle.opcodes.specs.declared.opcode.Takes.{Takes}
use Rattle.opcodes.specs.declared.opcode.Takes.TheVariants.{Nothing, One, Two}
use Rattle.opcodes.specs.Table.{line_of}
use Rattle.format.specs.Parts.{Parts, instruction_of}
use Rattle.lattice.specs.Order.{Lower}
use Rattle.lattice.specs.Computing.{lies}
use Rattle.analysis_theory.specs.declared.fault.Cause.{Cause}
use Rattle.analysis_theory.specs.declared.fault.Cause.TheVariants.{TooDeep, Misfit, Outside}
use Rattle.analysis_theory.specs.Laws.{Accepts}
use Rattle.types_theory.specs.Order.{all_below}
use Rattle.types_theory.specs.Effect.{kind_of_shape, suits, taken, left, type_fault, shallow, then_leaves, effect_of, effect_made_at}
use Rattle.types_theory.proofs.KindOrder.{lies_same, lies_further, reference_below}
use Rattle.types_theory.proofs.Stacks.{StackBelow, none, more, is_below, below_is, below_length}

-- operands are taken, and what is left is as P says
abbrev pub TakesSo : Result (List Kind) Cause → (List Kind → Type 0) → Type 0
TakesSo (Ok ks) P = P ks
TakesSo (Err c) P = ⊥

-- what was taken, by the test that passed
pub test_passed : {E : Type 0} (b : Bool) (x y : Result (List Kind) E) (f : E) (ks : List Kind) → y ≡ Err f → cond b x y ≡ Ok ks → (b ≡ true) × (x ≡ Ok ks)
test_passed true x y f ks n e = (refl, e)
test_passed false x y f ks n e = absurd (grind arith)

module _ (p : Parts) (low : Lower p) where
  suits_below : (n : ℕ) (s : Shape) (a b : Kind) → lies p a b ≡ true → suits p n s b ≡ true → suits p n s a ≡ true
  suits_below n AnInt a b h k = lies_further p low a b _ h k
  suits_below n ANull a b h k = lies_further p low a b _ h k
  suits_below n ARef a b h k = reference_below p low a b h k
  suits_below n AnyValue a b h k = lies_further p low a b _ h k
  suits_below n OfSlot a b h k = lies_further p low a b _ h k
  suits_below n OfClass a b h k = lies_further p low a b _ h k
  suits_below n OfOwner a b h k = lies_further p low a b _ h k
  suits_below n OfField a b h k = lies_further p low a b _ h k

  taken_below : (n : ℕ) (t : Takes) {ks js : List Kind} (ls : List Kind) → StackBelow p ks js → taken p n t js ≡ Ok ls → TakesSo (taken p n t ks) (λ ms. StackBelow p ms ls)
  taken_below n Nothing {ks = ks} ls h e = subst (StackBelow p ks) (grind arith) h
  taken_below n (One a) ls none e = grind arith
  taken_below n (One a) ls (more {k = k} {j = j} {ks = ks} {js = js} h m) e =
      let u = test_passed (suits p n a j) (Ok js) (Err (Misfit 0)) (Misfit 0) ls refl e in
      rw (suits_below n a k j h u.0) (subst (StackBelow p ks) (grind arith) m)
  taken_below n (Two a b) ls none e = grind arith
  taken_below n (Two a b) ls (more h none) e = grind arith
  taken_below n (Two a b) ls (more {k = k} {j = j} h (more {k = i} {j = g} {ks = ks} {js = js} l m)) e =
      let u = test_passed (suits p n b j) (cond (suits p n a g) (Ok js) (Err (Misfit 1))) (Err (Misfit 0)) (Misfit 0) ls refl e in
      let v = test_passed (suits p n a g) (Ok js) (Err (Misfit 1)) (Misfit 1) ls refl u.1 in
      rw (suits_below n b k j h u.0, suits_below n a i g l v.0) (subst (StackBelow p ks) (grind arith) m)

  left_below : (n : ℕ) (s : Option Shape) {ks js : List Kind} → StackBelow p ks js → StackBelow p (left p n s ks) (left p n s js)
  left_below n None h = h
  left_below n (Some a) h = more (lies_same p low (kind_of_shape p n a)) h

  shallow_below : {ks js : List Kind} (ls : List Kind) → StackBelow p ks js → shallow p js ≡ Ok ls → Accepts (shallow p ks) (λ ms. all_below p ms ls ≡ true)
  shallow_below {ks} {js} ls h e =
      let u = test_passed (leb (length js) p.depth) (Ok js) (Err (type_fault TooDeep)) (type_fault TooDeep) ls refl e in
      let s : leb (length ks) p.depth ≡ true = subst (λ (n : ℕ). leb n p.depth ≡ true) (sym (below_length p h)) u.0 in
      rw s (below_is p (subst (StackBelow p ks) (grind arith) h))

  then_below : (n : ℕ) (s : Option Shape) (x y : Result (List Kind) Cause) (ls : List Kind) → ((ms : List Kind) → y ≡ Ok ms → TakesSo x (λ ns. StackBelow p ns ms)) → then_leaves p n s y ≡ Ok ls → Accepts (then_leaves p n s x) (λ ms. all_below p ms ls ≡ true)
  then_below n s (Ok ks) (Ok js) ls h e = shallow_below ls (left_below n s (h js refl)) e
  then_below n s (Err c) (Ok js) ls h e = h js refl
  then_below n s x (Err c) ls h e = absurd (grind arith)

  pub effect_below : (i : ℕ) (ks js ls : List Kind) → all_below p ks js ≡ true → effect_made_at p i js ≡ Ok ls → Accepts (effect_made_at p i ks) (λ ms. all_below p ms ls ≡ true)
  effect_below i ks js ls h e =
      let x = instruction_of p i in
      let u = test_passed (ltb i (length p.code)) (effect_of p x js) (Err (type_fault Outside)) (type_fault Outside) ls refl e in
      rw u.0
      (then_below x.operand (line_of x.opcode).leaves (taken p x.operand (line_of x.opcode).takes ks)
      (taken p x.operand (line_of x.opcode).takes js) ls
      (λ ms. taken_below x.operand (line_of x.opcode).takes ms (is_below p ks js h)) u.1)
