-- The five numbers of a refused check. The place is an instruction, but for what is wrong with the certificate's bytes, where it
-- is the byte at which the field starts.
use Rattle.std.specs.Prelude.{ℕ, Some, None, Option}
use Rattle.format.specs.declared.refusal.Refusal.{Refusal}
use Rattle.analysis_theory.specs.Faults.{fault_number, fault_detail}
use Rattle.flow_theory.specs.declared.certificate.CertificateError.{CertificateError}
use Rattle.flow_theory.specs.declared.certificate.CertificateError.TheVariants.{Framing, Number, State, LeftOver}
use Rattle.flow_theory.specs.declared.flow.FlowFault.{FlowFault}
use Rattle.flow_theory.specs.declared.flow.FlowFault.TheVariants.{NotBelow, Effect, NoEntry, Leaves}
use Rattle.flow_theory.specs.declared.check.CheckError.{CheckError}
use Rattle.flow_theory.specs.declared.check.CheckError.TheVariants.{Sizes, Certificate, Flow}

abbrev pub five : ℕ → ℕ → ℕ → ℕ → ℕ → Refusal
five number place layer fault detail = record { number = number; place = place; layer = layer; fault = fault; detail = detail }

abbrev pub certificate_refusal : CertificateError → Refusal
certificate_refusal (Framing place) = five 11 place 0 0 0
certificate_refusal (Number place) = five 12 place 0 0 0
certificate_refusal (State place layer) = five 13 place layer 0 0
certificate_refusal (LeftOver place) = five 13 place 0 0 0

-- where a state comes from, as a number: the start is 65,535
abbrev pub sender_number : Option ℕ → ℕ
sender_number (Some i) = i
sender_number None = 65535

abbrev pub flow_refusal : FlowFault → Refusal
flow_refusal (Effect l) = five 7 l.at l.fault.layer (fault_number l.fault.cause) (fault_detail l.fault.cause)
flow_refusal (Leaves at) = five 8 at 0 0 0
flow_refusal (NoEntry at target) = five 14 at 0 0 target
flow_refusal (NotBelow place from) = five 15 place 0 0 (sender_number from)

abbrev pub check_refusal : CheckError → Refusal
check_refusal Sizes = five 6 0 0 0 0
check_refusal (Certificate e) = certificate_refusal e
check_refusal (Flow f) = flow_refusal f
