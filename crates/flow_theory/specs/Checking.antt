-- The verdict on a certificate: its entries are read, and the walk is made with them.
use Rattle.std.specs.Prelude.{ℕ, List, Ok, Err, Result}
use Rattle.format.specs.Parts.{Parts}
use Rattle.analysis_theory.specs.Meaning.{Meaning}
use Rattle.analysis_theory.specs.Typing.{NeverWrong}
use Rattle.flow_theory.specs.declared.certificate.CertificateError.{CertificateError}
use Rattle.flow_theory.specs.declared.certificate.Entry.{Entry}
use Rattle.flow_theory.specs.declared.flow.FlowFault.{FlowFault}
use Rattle.flow_theory.specs.declared.check.CheckError.{CheckError}
use Rattle.flow_theory.specs.declared.check.CheckError.TheVariants.{Certificate, Flow}
use Rattle.flow_theory.specs.Certificate.{entries_in, entry_at}
use Rattle.flow_theory.specs.Walk.{walk}

abbrev pub flowing : Result (Unit {0}) FlowFault → Result (Unit {0}) CheckError
flowing (Ok x) = Ok x
flowing (Err f) = Err (Flow f)

abbrev pub judged : {S : Type 0} → Parts → Meaning S → Result (List (Entry S)) CertificateError → Result (Unit {0}) CheckError
judged p m (Ok es) = flowing (walk p m (entry_at es))
judged p m (Err e) = Err (Certificate e)

abbrev pub verdict : {S : Type 0} → Parts → Meaning S → List ℕ → Result (Unit {0}) CheckError
verdict p m bs = judged p m (entries_in p m bs)

-- what a yes means: the unit can't go wrong, whatever bytes were the certificate
abbrev pub YesIsSafe : {S : Type 0} → Parts → Meaning S → Result (Unit {0}) CheckError → Type 0
YesIsSafe p m (Ok x) = NeverWrong p m
YesIsSafe p m (Err e) = Unit {0}
