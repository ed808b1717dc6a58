-- Bytes that begin with a state's writing are read as that state, and no others are read.
use Rattle.std.specs.Prelude.{◌≡◌, ℕ, zero, suc, ◌<◌, ◌≤◌, Bool, true, cond, List, [], ◌∷◌, ◌++◌, length, drop, Some, None, Ok, Err, Option, ◌==◌, refl}
use Rattle.std.proofs.Common.{sym, ap, ◌∙◌, arith}
use Rattle.std.proofs.lemmas.Bool.{le-leb}
use Rattle.std.proofs.lemmas.Bool.Decides.{nat_tests}
use Rattle.format.specs.Bytes.{AllBytes}
use Rattle.analysis_theory.specs.declared.fault.Unreadable.{Unreadable}
use Rattle.analysis_theory.specs.Meaning.{Got}
use Rattle.rows_theory.specs.declared.state.RowState.{RowState}
use Rattle.rows_theory.specs.declared.state.RowState.TheVariants.{Empty, Held, Perhaps}
use Rattle.rows_theory.specs.Writing.{row_byte, row_bytes, row_of_byte, row_got, row_parsed}

a_byte : (s : RowState) → row_byte s < 256
a_byte s = grind arith

pub writes_a_byte : (s : RowState) → AllBytes (row_bytes s)
writes_a_byte s zero l = a_byte s
writes_a_byte s (suc k) l = absurd (omega arith)

of_its_byte : (s : RowState) → row_of_byte (row_byte s) ≡ Some s
of_its_byte s = grind arith

-- a state that is read from a byte has that byte, by the three tests of the byte
pub by_tests : (b : ℕ) (x y z : Bool) (s : RowState) → (b == 0) ≡ x → (b == 1) ≡ y → (b == 2) ≡ z → cond x (Some Empty) (cond y (Some Held) (cond z (Some Perhaps) None)) ≡ Some s → b ≡ row_byte s
by_tests b x y z s p q r e = grind (arith, nat_tests)

-- and by the reading itself
pub byte_of : (b : ℕ) (s : RowState) → row_of_byte b ≡ Some s → b ≡ row_byte s
byte_of b s e = grind (arith, nat_tests)

-- where there is a byte, it decides
parsed_cons : (b : ℕ) (bs : List ℕ) → row_parsed (b ∷ bs) ≡ row_got (row_of_byte b)
parsed_cons b bs = let some : 1 ≤ length (b ∷ bs) = omega arith in rw (le-leb 1 (length (b ∷ bs)) some) refl

pub reads_its_writing : (s : RowState) (rest : List ℕ) → row_parsed (row_bytes s ++ rest) ≡ Ok (record { state = s; length = 1 })
reads_its_writing s rest = parsed_cons (row_byte s) rest ∙ ap row_got (of_its_byte s)

got : (o : Option RowState) (g : Got RowState) → row_got o ≡ Ok g → (o ≡ Some g.state) × (g.length ≡ 1)
got o g e = (grind arith, grind arith)

pub reads_only_writings : (bs : List ℕ) (g : Got RowState) → row_parsed bs ≡ Ok g → (g.length ≡ 1) × (bs ≡ row_bytes g.state ++ drop g.length bs)
reads_only_writings [] g e = absurd (grind arith)
reads_only_writings (b ∷ bs) g e =
    let h = got (row_of_byte b) g (sym (parsed_cons b bs) ∙ e) in
    (h.1, rw h.1 (ap (λ (x : ℕ). x ∷ bs) (byte_of b g.state h.0)))

pub refuses_under_3 : (o : Option RowState) (u : Unreadable) → row_got o ≡ Err u → (u.layer == 3) ≡ true
refuses_under_3 o u e = grind arith
