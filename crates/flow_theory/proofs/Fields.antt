-- A certificate's fields one by one: what is left to read decides as the whole does.
use Rattle.std.proofs.Common.{◌≡◌, ℕ, zero, suc, ◌+◌, ◌-◌, ◌<◌, ◌≤◌, Bool, true, false, cond, ◌&&◌, eqb, ltb, leb, List, [], ◌∷◌, ◌++◌, length, Some, None, Ok, Err, Result, sym, refl, ap, ◌∙◌, subst, arith, ltb-true, eq-eqb, eqb-true, le-leb, leb-true}
use borrow.Author.Tests.{lt-leb}
use Rattle.std.proofs.lemmas.Bool.{and_parts}
use Rattle.format.specs.Bytes.{word_at}
use Rattle.format.specs.Parts.{Parts}
use Rattle.analysis_theory.specs.declared.fault.Unreadable.{Unreadable}
use Rattle.analysis_theory.specs.Meaning.{Meaning, Got}
use Rattle.flow_theory.specs.declared.certificate.CertificateError.{CertificateError}
use Rattle.flow_theory.specs.declared.certificate.CertificateError.TheVariants.{Framing, Number, LeftOver}
use Rattle.flow_theory.specs.declared.certificate.Entry.{Entry}
use Rattle.flow_theory.specs.Certificate.{framed, state_in, on_front, stated, entries_from, entry_state, entry_in, entry_at}
use Rattle.flow_theory.proofs.Tests.{test_passed, framed_facts}

abbrev pub read_on : {S : Type 0} → Result (Entry S) CertificateError → (Entry S → Result (List (Entry S)) CertificateError) → Result (List (Entry S)) CertificateError
read_on (Ok e) rest = on_front e (rest e)
read_on (Err f) rest = Err f

-- entries in front of what is read
abbrev pub on_fronts : {S : Type 0} → List (Entry S) → Result (List (Entry S)) CertificateError → Result (List (Entry S)) CertificateError
on_fronts [] r = r
on_fronts (e ∷ es) r = on_front e (on_fronts es r)

pub fronts_more : {S : Type 0} (es : List (Entry S)) (e : Entry S) (r : Result (List (Entry S)) CertificateError) → on_fronts (es ++ (e ∷ [])) r ≡ on_fronts es (on_front e r)
fronts_more [] e r = refl
fronts_more (x ∷ es) e r = ap (on_front x) (fronts_more es e r)

pub fronts_none : {S : Type 0} (es : List (Entry S)) → on_fronts es (Ok []) ≡ Ok es
fronts_none [] = refl
fronts_none (x ∷ es) = ap (on_front x) (fronts_none es)

pub fronts_err : {S : Type 0} (es : List (Entry S)) (f : CertificateError) → on_fronts es (Err f) ≡ Err f
fronts_err [] f = refl
fronts_err (x ∷ es) f = ap (on_front x) (fronts_err es f)

module _ {S : Type 0} (p : Parts) (m : Meaning S) (bs : List ℕ) where
  stated_is : (q number size n : ℕ) (r : Result (Got S) Unreadable) → stated q number size r (entries_from p m bs n (q + 3 + word_at bs (q + 1)) (number + 1)) ≡ read_on (entry_state q number size r) (λ e. entries_from p m bs n (q + 3 + word_at bs (q + 1)) (e.at + 1))
  stated_is q number size n (Ok g) = go (eqb g.length size)
    where
      go : (b : Bool) → cond b (on_front (record { at = number; state = g.state }) (entries_from p m bs n (q + 3 + word_at bs (q + 1)) (number + 1))) (Err (LeftOver q)) ≡ read_on (cond b (Ok (record { at = number; state = g.state })) (Err (LeftOver q))) (λ e. entries_from p m bs n (q + 3 + word_at bs (q + 1)) (e.at + 1))
      go true = refl
      go false = refl
  stated_is q number size n (Err u) = refl

  -- where bytes are left, the first field comes first
  pub first_field : (n q least : ℕ) → q < length bs → entries_from p m bs (suc n) q least ≡ read_on (entry_in p m bs q least) (λ e. entries_from p m bs n (q + 3 + word_at bs (q + 1)) (e.at + 1))
  first_field n q least l =
      rw (lt-leb (length bs) q l) (go (framed bs q) (leb least (word_at bs (q + 3)) && ltb (word_at bs (q + 3)) (length p.code)))
    where
      go : (a b : Bool) → cond a (cond b (stated q (word_at bs (q + 3)) (word_at bs (q + 1) - 2) (m.parsed (state_in bs q)) (entries_from p m bs n (q + 3 + word_at bs (q + 1)) (word_at bs (q + 3) + 1))) (Err (Number q))) (Err (Framing q)) ≡ read_on (cond a (cond b (entry_state q (word_at bs (q + 3)) (word_at bs (q + 1) - 2) (m.parsed (state_in bs q))) (Err (Number q))) (Err (Framing q))) (λ e. entries_from p m bs n (q + 3 + word_at bs (q + 1)) (e.at + 1))
      go true true = stated_is q (word_at bs (q + 3)) (word_at bs (q + 1) - 2) n (m.parsed (state_in bs q))
      go true false = refl
      go false b = refl

  pub no_field : (n q least : ℕ) → length bs ≤ q → entries_from p m bs n q least ≡ Ok []
  no_field zero q least l = rw (le-leb (length bs) q l) refl
  no_field (suc n) q least l = rw (le-leb (length bs) q l) refl

  -- what a field that was read tells
  pub record FieldFacts (q least : ℕ) (e : Entry S) : Type 0 where
    pub room : q + 5 ≤ length bs
    pub within : q + 3 + word_at bs (q + 1) ≤ length bs
    pub rises : least ≤ e.at
    pub in_code : e.at < length p.code

  number_is : (q number size : ℕ) (r : Result (Got S) Unreadable) (e : Entry S) → entry_state q number size r ≡ Ok e → number ≡ e.at
  number_is q number size (Ok g) e h =
      let u = test_passed (eqb g.length size) (Ok (record { at = number; state = g.state })) (LeftOver q) e h in
      let v = u.1 in
      grind arith
  number_is q number size (Err u) e h = absurd (grind arith)

  pub field_facts : (q least : ℕ) (e : Entry S) → entry_in p m bs q least ≡ Ok e → FieldFacts q least e
  field_facts q least e h =
      let u = test_passed (framed bs q) (cond (leb least (word_at bs (q + 3)) && ltb (word_at bs (q + 3)) (length p.code)) (entry_state q (word_at bs (q + 3)) (word_at bs (q + 1) - 2) (m.parsed (state_in bs q))) (Err (Number q))) (Framing q) e h in
      let v = test_passed (leb least (word_at bs (q + 3)) && ltb (word_at bs (q + 3)) (length p.code)) (entry_state q (word_at bs (q + 3)) (word_at bs (q + 1) - 2) (m.parsed (state_in bs q))) (Number q) e u.1 in
      let n = number_is q (word_at bs (q + 3)) (word_at bs (q + 1) - 2) (m.parsed (state_in bs q)) e v.1 in
      let w = framed_facts bs q u.0 in
      let d = and_parts (leb least (word_at bs (q + 3))) (ltb (word_at bs (q + 3)) (length p.code)) v.0 in
      record {
        room = w.room;
        within = w.within;
        rises = subst (λ (k : ℕ). least ≤ k) n (leb-true _ _ d.0);
        in_code = subst (λ (k : ℕ). k < length p.code) n (ltb-true _ _ d.1);
      }

-- an entry behind others
pub entry_behind : {S : Type 0} (es : List (Entry S)) (e : Entry S) (i : ℕ) → entry_at es e.at ≡ None → entry_at (es ++ (e ∷ [])) i ≡ cond (eqb e.at i) (Some e.state) (entry_at es i)
entry_behind [] e i h = refl
entry_behind (x ∷ es) e i h = go (eqb x.at i) (eqb x.at e.at) (eqb e.at i) refl refl refl (entry_behind es e i) h
  where
    go : (a b c : Bool) → eqb x.at i ≡ a → eqb x.at e.at ≡ b → eqb e.at i ≡ c → (entry_at es e.at ≡ None → entry_at (es ++ (e ∷ [])) i ≡ cond c (Some e.state) (entry_at es i)) → cond b (Some x.state) (entry_at es e.at) ≡ None → cond a (Some x.state) (entry_at (es ++ (e ∷ [])) i) ≡ cond c (Some e.state) (cond a (Some x.state) (entry_at es i))
    go a true c p q r rest n = absurd (grind arith)
    go true false true p q r rest n = absurd (let s = eqb-true x.at i p ∙ sym (eqb-true e.at i r) in let t = eq-eqb x.at e.at s in let z : ◌≡◌ {A = ℕ} 0 1 = cc in omega arith)
    go true false false p q r rest n = refl
    go false false c p q r rest n = rest n
