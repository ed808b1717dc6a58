-- What the computed test of the whole opcode table says of each of its lines.
use Rattle.std.proofs.Common.{◌≡◌, ℕ, zero, suc, ◌+◌, ◌<◌, true, ltb, List, [], ◌∷◌, length, get_or, Option, Some, None, Ok, sym, refl, ap, ◌∙◌, add-zero, arith}
use Rattle.std.specs.Result.{result_ok}
use Rattle.std.proofs.lemmas.Bool.{and_parts, eqb-true, ltb-true}
use Rattle.std.proofs.lemmas.Option.{cond_some}
use Rattle.opcodes.specs.declared.opcode.Opcode.{Opcode}
use Rattle.opcodes.specs.declared.opcode.Opcode.TheVariants.{Push}
use Rattle.opcodes.specs.Numbers.{opcode_number}
use Rattle.opcodes.specs.Table.{Line, table, line_at, line_of, opcode_at, opcode_of, or_unknown, numbered}
use Rattle.opcodes.specs.TableRule.{line_keeps, keep_from}

keep_at : (ls : List Line) (d : Line) (i : ℕ) → keep_from i ls ≡ true → (k : ℕ) → k < length ls → line_keeps (i + k) (get_or ls k d) ≡ true
keep_at [] d i h k l = absurd (omega arith)
keep_at (x ∷ ls) d i h zero l = rw add-zero (and_parts (line_keeps i x) (keep_from (suc i) ls) h).0
keep_at (x ∷ ls) d i h (suc k) l =
    let e : i + suc k ≡ suc i + k = omega arith in
    rw e (keep_at ls d (suc i) (and_parts (line_keeps i x) (keep_from (suc i) ls) h).1 k (omega arith))

-- a line stands at its instruction's number
pub number_at : (n : ℕ) → n < 15 → opcode_number (opcode_at n) ≡ n
number_at n l =
    let k : line_keeps (0 + n) (line_at n) ≡ true = keep_at table _ 0 refl n l in
    let e : 0 + n ≡ n = omega arith in
    eqb-true _ _ (and_parts _ _ k).0 ∙ e

-- the line of the instruction that a number stands for is the line at that number
pub line_at_opcode : (n : ℕ) (o : Opcode) → opcode_of n ≡ Some o → (n < 15) × (line_of o ≡ line_at n)
line_at_opcode n o h =
    let s = cond_some (ltb n 15) (opcode_at n) o h in
    let l : n < 15 = ltb-true n 15 s.0 in
    (l, ap (λ x. line_at (opcode_number x)) (sym s.1) ∙ ap line_at (number_at n l))

pub opcode_at_number : (n : ℕ) (o : Opcode) → opcode_of n ≡ Some o → opcode_at n ≡ o
opcode_at_number n o h = (cond_some (ltb n 15) (opcode_at n) o h).1

pub number_below : (o : Opcode) → opcode_number o < 15
number_below Push = omega arith
number_below o = omega arith

-- an instruction is the one that its number stands for
pub at_number : (o : Opcode) → opcode_at (opcode_number o) ≡ o
at_number Push = refl
at_number o = refl

pub numbered_if_ok : (n : ℕ) → result_ok (numbered n) ≡ opcode_of n
numbered_if_ok n = step (opcode_of n)
  where
    step : (m : Option Opcode) → result_ok (or_unknown n m) ≡ m
    step (Some x) = refl
    step None = refl

-- the instruction that a byte was turned into is that of its number
pub numbered_ok : (n : ℕ) (o : Opcode) → numbered n ≡ Ok o → opcode_of n ≡ Some o
numbered_ok n o h = sym (numbered_if_ok n) ∙ ap result_ok h
