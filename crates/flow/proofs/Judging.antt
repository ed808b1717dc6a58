-- The verdict, from what was read and the walk.
use Rattle.std.proofs.Common.{◌≡◌, ℕ, List, Ok, Err, Result, ap, ◌∙◌, arith}
use mathlib.Core.Path.{fun_ext}
use Rattle.format.specs.Parts.{Parts}
use Rattle.analysis_theory.specs.Meaning.{Meaning}
use Rattle.analysis_theory.specs.Typing.{Typing}
use Rattle.flow_theory.specs.declared.certificate.CertificateError.{CertificateError}
use Rattle.flow_theory.specs.declared.certificate.Entry.{Entry}
use Rattle.flow_theory.specs.declared.flow.FlowFault.{FlowFault}
use Rattle.flow_theory.specs.declared.check.CheckError.{CheckError}
use Rattle.flow_theory.specs.declared.check.CheckError.TheVariants.{Flow}
use Rattle.flow_theory.specs.Certificate.{entries_in}
use Rattle.flow_theory.specs.Walk.{walk}
use Rattle.flow_theory.specs.Checking.{flowing, judged, verdict}
use Rattle.flow.specs.Answers.{EntriesRead}

module _ {S : Type 0} (p : Parts) (m : Meaning S) where
  judged_walk : (d : Result (List (Entry S)) CertificateError) (held : Typing S) → EntriesRead d (Ok tt) held → flowing (walk p m held) ≡ judged p m d
  judged_walk (Ok es) held h = ap (λ (τ : Typing S). flowing (walk p m τ)) (fun_ext h.1)
  judged_walk (Err e) held h = absurd (grind arith)

  -- the walk decides
  pub verdict_accepts : (bs : List ℕ) (held : Typing S) → EntriesRead (entries_in p m bs) (Ok tt) held → Ok tt ≡ walk p m held → Ok tt ≡ verdict p m bs
  verdict_accepts bs held h e = ap flowing e ∙ judged_walk (entries_in p m bs) held h

  pub verdict_flow : (bs : List ℕ) (held : Typing S) (f : FlowFault) (r : Result (Unit {0}) CheckError) → EntriesRead (entries_in p m bs) (Ok tt) held → Err f ≡ walk p m held → r ≡ Err (Flow f) → r ≡ verdict p m bs
  verdict_flow bs held f r h e q = q ∙ ap flowing e ∙ judged_walk (entries_in p m bs) held h
