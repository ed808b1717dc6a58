-- What the steps of a check answer.
use Rattle.std.specs.Prelude.{◌≡◌, ℕ, ◌+◌, ◌<◌, ◌≤◌, cond, List, length, Some, None, Ok, Err, Option, Result}
use Rattle.format.specs.Bytes.{word_at}
use Rattle.format.specs.Parts.{Parts}
use Rattle.analysis_theory.specs.declared.fault.Fault.{Fault}
use Rattle.flow_theory.specs.declared.flow.Located.{Located}
use Rattle.flow_theory.specs.declared.flow.FlowFault.{FlowFault}
use Rattle.flow_theory.specs.declared.flow.FlowFault.TheVariants.{NotBelow}
use Rattle.analysis_theory.specs.Meaning.{Meaning}
use Rattle.flow_theory.specs.Walk.{sender_of, holds, arrives}
use Rattle.analysis_theory.specs.Typing.{Typing}
use Rattle.flow_theory.specs.declared.certificate.CertificateError.{CertificateError}
use Rattle.flow_theory.specs.declared.certificate.Entry.{Entry}
use Rattle.flow_theory.specs.Certificate.{entry_in, entry_at}

-- what the next field of a certificate gives, read at a place: its entry, and then the next field starts behind it and has a greater
-- number; or what is wrong with it; or nothing, where no bytes are left
abbrev pub FieldRead : {S : Type 0} → Parts → Meaning S → List ℕ → ℕ → ℕ → Option (Result (Entry S) CertificateError) → ℕ → ℕ → Type 0
FieldRead p m bs place least None place' least' = length bs ≤ place
FieldRead p m bs place least (Some (Ok e)) place' least' =
    (place < length bs) × ((Ok e ≡ entry_in p m bs place least) × ((place' ≡ place + (3 + word_at bs (place + 1))) × (least' ≡ e.at + 1)))
FieldRead p m bs place least (Some (Err f)) place' least' = (place < length bs) × (Err f ≡ entry_in p m bs place least)

-- the state after an instruction, or a fault with the instruction
abbrev pub EffectedAt : {S : Type 0} → Result S Fault → ℕ → Result (Unit {0}) Located → S → Type 0
EffectedAt (Ok t) i r after = (r ≡ Ok tt) × (after ≡ t)
EffectedAt (Err f) i r after = r ≡ Err (record { at = i; fault = f })

-- what is held, if what arrives is below the entry
abbrev pub HeldAt : {S : Type 0} → Meaning S → ℕ → Option S → Option S → Result (Option S) FlowFault → Type 0
HeldAt m i entry arriving r = r ≡ cond (arrives m entry arriving) (Ok (holds entry arriving)) (Err (NotBelow i (sender_of i)))

-- what reading a certificate's entries into a table answers, and where the table then has entries
abbrev pub EntriesRead : {S : Type 0} → Result (List (Entry S)) CertificateError → Result (Unit {0}) CertificateError → Typing S → Type 0
EntriesRead (Ok es) r held = (r ≡ Ok tt) × ((i : ℕ) → held i ≡ entry_at es i)
EntriesRead (Err e) r held = r ≡ Err e
