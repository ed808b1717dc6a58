-- What tests tell that were passed.
use Rattle.std.proofs.Common.{◌≡◌, ℕ, ◌+◌, ◌≤◌, Bool, true, false, cond, ◌&&◌, eqb, leb, List, length, Ok, Err, Result, refl, arith, eqb-true, leb-true}
use Rattle.std.proofs.lemmas.Bool.{and_parts}
use Rattle.format.specs.Bytes.{byte_at, word_at}
use Rattle.flow_theory.specs.Certificate.{framed}

-- a test stood before an answer, and the answer came
pub test_passed : {X E : Type 0} (b : Bool) (x : Result X E) (f : E) (y : X) → cond b x (Err f) ≡ Ok y → (b ≡ true) × (x ≡ Ok y)
test_passed true x f y e = (refl, e)
test_passed false x f y e = absurd (grind arith)

-- a field stands whole at a place
pub record FramedFacts (bs : List ℕ) (q : ℕ) : Type 0 where
  pub room : q + 5 ≤ length bs
  pub tag : byte_at bs q ≡ 18
  pub two : 2 ≤ word_at bs (q + 1)
  pub within : q + 3 + word_at bs (q + 1) ≤ length bs

pub framed_facts : (bs : List ℕ) (q : ℕ) → framed bs q ≡ true → FramedFacts bs q
framed_facts bs q f =
    let a = and_parts (leb (q + 5) (length bs)) (eqb (byte_at bs q) 18 && (leb 2 (word_at bs (q + 1)) && leb (q + 3 + word_at bs (q + 1)) (length bs))) f in
    let b = and_parts (eqb (byte_at bs q) 18) (leb 2 (word_at bs (q + 1)) && leb (q + 3 + word_at bs (q + 1)) (length bs)) a.1 in
    let c = and_parts (leb 2 (word_at bs (q + 1))) (leb (q + 3 + word_at bs (q + 1)) (length bs)) b.1 in
    record { room = leb-true _ _ a.0; tag = eqb-true _ _ b.0; two = leb-true _ _ c.0; within = leb-true _ _ c.1 }
