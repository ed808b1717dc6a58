-- One field of a certificate, from its tests.
use Rattle.std.proofs.Common.{◌≡◌, ℕ, ◌+◌, ◌-◌, ◌<◌, ◌≤◌, true, ◌&&◌, ltb, leb, List, length, take, drop, Ok, Err, Result, MatchResult, sym, refl, ap, ◌∙◌, subst, arith, lt-ltb, eq-eqb, ne_eqb, le-leb}
use Rattle.std.proofs.lemmas.Bool.{and_from}
use Rattle.format.specs.Bytes.{word_at}
use Rattle.format.specs.Parts.{Parts}
use Rattle.analysis_theory.specs.declared.fault.Unreadable.{Unreadable}
use Rattle.analysis_theory.specs.Meaning.{Meaning, Got}
use Rattle.analysis_theory.specs.Methods.{ReadAs}
use Rattle.flow_theory.specs.declared.certificate.CertificateError.{CertificateError}
use Rattle.flow_theory.specs.declared.certificate.CertificateError.TheVariants.{LeftOver}
use Rattle.flow_theory.specs.Certificate.{framed, state_in, entry_state, entry_in}

-- what was read, behind a conversion of the error
pub read_was : {S : Type 0} (o : Result (Got S) Unreadable) (r : Result (S × ℕ) Unreadable) (s : S) (n : ℕ) → ReadAs o r → MatchResult r (λ got. ◌≡◌ {A = Result (S × ℕ) CertificateError} (Ok (s, n)) (Ok got)) (λ e. ⊥) → ReadAs o (Ok (s, n))
read_was o (Ok got) s n h k = let q : got ≡ (s, n) = cc in subst (λ x. ReadAs o (Ok x)) q h
read_was o (Err u) s n h k = absurd k

module _ {S : Type 0} (p : Parts) (m : Meaning S) (bs : List ℕ) (q least at size : ℕ) (whole : true ≡ framed bs q) (sized : size ≡ word_at bs (q + 1)) (numbered : at ≡ word_at bs (q + 3)) (rises : least ≤ at) (inside : at < length p.code) where
  -- the bytes of the state, as the code cuts them out
  abbrev part : List ℕ
  part = take (q + 3 + size - (q + 5)) (drop (q + 5) bs)

  part_is : part ≡ state_in bs q
  part_is = ap (λ (n : ℕ). take n (drop (q + 5) bs)) (let k : q + 3 + size - (q + 5) ≡ size - 2 = omega arith in k) ∙ ap (λ (n : ℕ). take (n - 2) (drop (q + 5) bs)) sized

  entry_is : entry_in p m bs q least ≡ entry_state q at (size - 2) (m.parsed part)
  entry_is =
      let number : (leb least (word_at bs (q + 3)) && ltb (word_at bs (q + 3)) (length p.code)) ≡ true =
      subst (λ (k : ℕ). (leb least k && ltb k (length p.code)) ≡ true) numbered (and_from _ _ (le-leb least at rises) (lt-ltb at (length p.code) inside)) in
      rw (sym whole, number)
      (ap (λ (k : ℕ). entry_state q k (word_at bs (q + 1) - 2) (m.parsed (state_in bs q))) (sym numbered)
      ∙ ap (λ (k : ℕ). entry_state q at (k - 2) (m.parsed (state_in bs q))) (sym sized)
      ∙ ap (λ (xs : List ℕ). entry_state q at (size - 2) (m.parsed xs)) (sym part_is))

  read_ok : (o : Result (Got S) Unreadable) (s : S) (n : ℕ) → ReadAs o (Ok (s, n)) → o ≡ Ok (record { state = s; length = n })
  read_ok (Ok g) s n h = let a : s ≡ g.state = grind arith in let b : n ≡ g.length = grind arith in λ i. Ok (record { state = sym a i; length = sym b i })
  read_ok (Err u) s n h = absurd (grind arith)

  pub entry_read : (s : S) (n : ℕ) → ReadAs (m.parsed part) (Ok (s, n)) → n ≡ size - 2 → Ok (record { at = at; state = s }) ≡ entry_in p m bs q least
  entry_read s n h e = sym (entry_is ∙ ap (entry_state q at (size - 2)) (read_ok (m.parsed part) s n h) ∙ rw (eq-eqb n (size - 2) e) refl)

  pub entry_left : (s : S) (n : ℕ) → ReadAs (m.parsed part) (Ok (s, n)) → (n ≡ size - 2 → ⊥) → Err (LeftOver q) ≡ entry_in p m bs q least
  entry_left s n h e = sym (entry_is ∙ ap (entry_state q at (size - 2)) (read_ok (m.parsed part) s n h) ∙ rw (ne_eqb n (size - 2) e) refl)
