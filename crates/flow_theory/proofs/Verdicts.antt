-- What is accepted can't go wrong.
use Rattle.std.proofs.Common.{◌≡◌, ℕ, ◌+◌, ◌<◌, Bool, true, false, cond, eqb, List, [], ◌∷◌, length, Some, Ok, Err, Result, refl, subst, arith, eqb-true}
use Rattle.format.specs.Bytes.{AllBytes}
use Rattle.format.specs.Parts.{Parts}
use Rattle.format.specs.Rules.{Keeps}
use Rattle.analysis_theory.specs.Meaning.{Meaning}
use Rattle.analysis_theory.specs.Laws.{Laws}
use Rattle.analysis_theory.specs.Typing.{NeverWrong}
use Rattle.analysis_theory.proofs.Safety.{stable_never_wrong}
use Rattle.flow_theory.specs.declared.certificate.CertificateError.{CertificateError}
use Rattle.flow_theory.specs.declared.certificate.Entry.{Entry}
use Rattle.flow_theory.specs.declared.flow.FlowFault.{FlowFault}
use Rattle.flow_theory.specs.declared.check.CheckError.{CheckError}
use Rattle.flow_theory.specs.Certificate.{Rising, more, entries_in, entry_at}
use Rattle.flow_theory.specs.Walk.{walk}
use Rattle.flow_theory.specs.Held.{held}
use Rattle.flow_theory.specs.Checking.{flowing, judged, verdict, YesIsSafe}
use Rattle.flow_theory.proofs.Accepting.{accepted_stable}
use Rattle.flow_theory.proofs.Decoding.{decoded_encoded}

flow_ok : (r : Result (Unit {0}) FlowFault) → flowing r ≡ Ok tt → r ≡ Ok tt
flow_ok (Ok x) e = refl
flow_ok (Err f) e = absurd (grind arith)

module _ {S : Type 0} {p : Parts} {m : Meaning S} where
  -- the entries of a certificate are states of instructions of the code
  entry_facts : (es : List (Entry S)) (least : ℕ) → Rising p m least es → (i : ℕ) (s : S) → entry_at es i ≡ Some s → (m.is_state s ≡ true) × (i < length p.code)
  entry_facts [] least r i s h = absurd (grind arith)
  entry_facts (e ∷ es) least (more a b c d r) i s h = go (eqb e.at i) refl h (entry_facts es (e.at + 1) r i s)
    where
      go : (t : Bool) → eqb e.at i ≡ t → cond t (Some e.state) (entry_at es i) ≡ Some s → (entry_at es i ≡ Some s → (m.is_state s ≡ true) × (i < length p.code)) → (m.is_state s ≡ true) × (i < length p.code)
      go true q k rest =
          let is : e.state ≡ s = grind arith in
          (subst (λ (x : S). m.is_state x ≡ true) is c, subst (λ (n : ℕ). n < length p.code) (eqb-true e.at i q) b)
      go false q k rest = rest k

  judged_safe : Laws p m → Keeps p → (bs : List ℕ) → AllBytes bs → (d : Result (List (Entry S)) CertificateError) → entries_in p m bs ≡ d → judged p m d ≡ Ok tt → NeverWrong p m
  judged_safe laws keeps bs bytes (Ok es) q h =
      let r = (decoded_encoded laws bs bytes es q).1 in
      stable_never_wrong laws (held p m (entry_at es))
      (accepted_stable laws (entry_at es) (λ i s k. (entry_facts es 0 r i s k).0) (λ i s k. (entry_facts es 0 r i s k).1) (flow_ok (walk p m (entry_at es)) h) keeps.some_code)
  judged_safe laws keeps bs bytes (Err e) q h = absurd (grind arith)

  pub yes_is_safe : Laws p m → Keeps p → (bs : List ℕ) → AllBytes bs → (r : Result (Unit {0}) CheckError) → verdict p m bs ≡ r → YesIsSafe p m r
  yes_is_safe laws keeps bs bytes (Ok x) e = judged_safe laws keeps bs bytes (entries_in p m bs) refl e
  yes_is_safe laws keeps bs bytes (Err f) e = tt
