-- Bytes that begin with a set's writing are read as that set, and no others are read.
use Rattle.std.specs.Prelude.{◌≡◌, ℕ, suc, ◌+◌, ◌*◌, ◌/◌, ◌%◌, ◌^◌, ◌<◌, ◌≤◌, Bool, true, cond, ◌&&◌, List, ◌∷◌, ◌++◌, length, drop, Ok, Err, Result, ◌==◌, nat_le}
use Rattle.std.proofs.Math.Path.{refl}
use Rattle.std.proofs.Common.{sym, ap, subst, ◌∙◌}
use native.Mathlib.Omega.{arith}
use Rattle.std.proofs.lemmas.Nat.{shr-shr}
use Rattle.std.proofs.lemmas.Bool.{and_from, and_parts, cond-true, le-leb, lt-ltb, leb-true, ltb-true}
use Rattle.format.specs.Bytes.{AllBytes}
use Rattle.format.specs.Parts.{Parts}
use Rattle.analysis_theory.specs.declared.fault.Unreadable.{Unreadable}
use Rattle.analysis_theory.specs.Meaning.{Got}
use Rattle.analysis_theory.specs.Methods.{ReadAs}
use Rattle.slots_theory.specs.declared.set.SlotSet.{SlotSet}
use Rattle.slots_theory.specs.Sets.{of_bits}
use Rattle.slots_theory.specs.Writing.{in_slots, set_bytes, bits_in, set_parsed}
use Rattle.slots_theory.proofs.Same.{same_set}

pub writes_four_bytes : (s : SlotSet) → AllBytes (set_bytes s)
writes_four_bytes s (suc (suc (suc (suc k)))) l = absurd (omega arith)
writes_four_bytes s k l = omega arith

abbrev read : List ℕ → Got SlotSet
read bs = record { state = of_bits (bits_in bs); length = 4 }

-- four bytes with no bit from the slot count on are read
parsed_where_right : (p : Parts) (bs : List ℕ) → 4 ≤ length bs → bits_in bs < 2 ^ length p.slots → set_parsed p bs ≡ Ok (read bs)
parsed_where_right p bs long right =
    cond-true (nat_le 4 (length bs) && in_slots p (bits_in bs)) (Ok (read bs)) (Err (record { layer = 2 }))
    (and_from (nat_le 4 (length bs)) (in_slots p (bits_in bs)) (le-leb 4 (length bs) long) (lt-ltb (bits_in bs) (2 ^ length p.slots) right))

-- and whoever has the set of that number has read it
pub read_where_right : (p : Parts) (bs : List ℕ) (s : SlotSet) → s.bits ≡ bits_in bs → 4 ≤ length bs → bits_in bs < 2 ^ length p.slots → ReadAs (set_parsed p bs) (Ok (s, 4))
read_where_right p bs s is long right =
    let small = s.fits in
    let same : s.bits ≡ bits_in bs % 2 ^ 32 = omega (arith, is, small) in
    subst (λ (r : Result (Got SlotSet) Unreadable). ReadAs r (Ok (s, 4))) (sym (parsed_where_right p bs long right))
    (ap (λ (x : SlotSet). Ok (x, 4)) (same_set s (of_bits (bits_in bs)) same))

-- the number of a set's bytes is the set's
bits_again : (n : ℕ) → n < 2 ^ 32 → n / 16777216 % 256 * 16777216 + n / 65536 % 256 * 65536 + n / 256 % 256 * 256 + n % 256 ≡ n
bits_again n l =
    let second : n / 65536 ≡ n / 256 / 256 = sym (shr-shr n 8 8) in
    let third : n / 16777216 ≡ n / 256 / 256 / 256 = sym (shr-shr n 16 8) ∙ ap (λ x. x / 256) second in
    rw (second, third) (omega arith)

pub reads_its_writing : (p : Parts) (s : SlotSet) (rest : List ℕ) → in_slots p s.bits ≡ true → set_parsed p (set_bytes s ++ rest) ≡ Ok (record { state = s; length = 4 })
reads_its_writing p s rest h =
    let bs = set_bytes s ++ rest in
    let long : 4 ≤ length bs = omega arith in
    let again : bits_in bs ≡ s.bits = bits_again s.bits s.fits in
    let right : bits_in bs < 2 ^ length p.slots = omega (arith, ltb-true s.bits (2 ^ length p.slots) h, again) in
    let small = s.fits in
    let same : bits_in bs % 2 ^ 32 ≡ s.bits = omega (arith, again, small) in
    parsed_where_right p bs long right ∙ ap (λ (x : SlotSet). Ok (record { state = x; length = 4 })) (same_set (of_bits (bits_in bs)) s same)

-- what is read passes both tests
by_test : (b : Bool) (x : Got SlotSet) (u : Unreadable) (g : Got SlotSet) → cond b (Ok x) (Err u) ≡ Ok g → (b ≡ true) × (x ≡ g)
by_test b x u g e = (grind arith, grind arith)

-- a number of four bytes gives them back
module _ (a b c d : ℕ) (first : a < 256) (second : b < 256) (third : c < 256) (fourth : d < 256) where
  whole : ℕ
  whole = a * 16777216 + b * 65536 + c * 256 + d

  not_longer : whole % 2 ^ 32 ≡ whole
  unfolding whole
  not_longer = omega arith

  first_again : whole / 16777216 % 256 ≡ a
  unfolding whole
  first_again = let high : (a * 16777216 + b * 65536 + c * 256 + d) / 16777216 ≡ a = omega arith in rw high (omega arith)

  second_again : whole / 65536 % 256 ≡ b
  unfolding whole
  second_again = let high : (a * 16777216 + b * 65536 + c * 256 + d) / 65536 ≡ a * 256 + b = omega arith in rw high (omega arith)

  third_again : whole / 256 % 256 ≡ c
  unfolding whole
  third_again =
      let high : (a * 16777216 + b * 65536 + c * 256 + d) / 256 ≡ a * 65536 + b * 256 + c = omega arith in rw high (omega arith)

  fourth_again : whole % 256 ≡ d
  unfolding whole
  fourth_again = omega arith

  four_again : (rest : List ℕ) → ◌≡◌ {A = List ℕ} (a ∷ b ∷ c ∷ d ∷ rest) (set_bytes (of_bits (bits_in (a ∷ b ∷ c ∷ d ∷ rest))) ++ rest)
  unfolding whole
  four_again rest = rw (not_longer, first_again, second_again, third_again, fourth_again) refl

-- bytes of which four make a number are its writing, and the rest
written_again : (bs : List ℕ) → AllBytes bs → 4 ≤ length bs → (bs ≡ set_bytes (of_bits (bits_in bs)) ++ drop 4 bs) × (bits_in bs < 2 ^ 32)
written_again (a ∷ b ∷ c ∷ d ∷ rest) all long =
    let first : a < 256 = all 0 (omega arith) in
    let second : b < 256 = all 1 (omega arith) in
    let third : c < 256 = all 2 (omega arith) in
    let fourth : d < 256 = all 3 (omega arith) in
    (four_again a b c d first second third fourth rest, omega arith)
written_again bs all long = absurd (omega arith)

pub reads_only_writings : (p : Parts) (bs : List ℕ) (g : Got SlotSet) → AllBytes bs → set_parsed p bs ≡ Ok g → (in_slots p g.state.bits ≡ true) × (g.length ≡ 4) × (bs ≡ set_bytes g.state ++ drop g.length bs)
reads_only_writings p bs g all e =
    let passed = by_test (nat_le 4 (length bs) && in_slots p (bits_in bs)) (read bs) (record { layer = 2 }) g e in
    let tests = and_parts (nat_le 4 (length bs)) (in_slots p (bits_in bs)) passed.0 in
    let w = written_again bs all (leb-true 4 (length bs) tests.0) in
    let small = w.1 in
    let same : bits_in bs % 2 ^ 32 ≡ bits_in bs = omega (arith, small) in
    subst (λ (x : Got SlotSet). (in_slots p x.state.bits ≡ true) × (x.length ≡ 4) × (bs ≡ set_bytes x.state ++ drop x.length bs))
    passed.1 (subst (λ (n : ℕ). in_slots p n ≡ true) (sym same) tests.1, refl, w.0)

refused_by_test : (b : Bool) (x : Got SlotSet) (u : Unreadable) → cond b (Ok x) (Err (record { layer = 2 })) ≡ Err u → (u.layer == 2) ≡ true
refused_by_test b x u e = grind arith

pub refuses_under_2 : (p : Parts) (bs : List ℕ) (u : Unreadable) → set_parsed p bs ≡ Err u → (u.layer == 2) ≡ true
refuses_under_2 p bs u e = refused_by_test (nat_le 4 (length bs) && in_slots p (bits_in bs)) (read bs) u e
