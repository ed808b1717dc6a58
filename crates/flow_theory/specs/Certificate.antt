-- The certificate's format: field 11 (hexadecimal) with the instruction count, then fields 12, each with an instruction number and a
-- state, in rising order of the numbers. A field is a one-byte tag, a two-byte length and that many bytes.
use Rattle.std.specs.Prelude.{◌≡◌, ℕ, zero, suc, ◌+◌, ◌-◌, ◌<◌, ◌≤◌, Bool, true, cond, ◌&&◌, List, [], ◌∷◌, ◌++◌, length, Some, None, Ok, Err, Result, ◌==◌, nat_le, nat_lt}
use Rattle.format.specs.Bytes.{byte_at, word_at, word, slice}
use Rattle.format.specs.Parts.{Parts}
use Rattle.analysis_theory.specs.declared.fault.Unreadable.{Unreadable}
use Rattle.analysis_theory.specs.Meaning.{Meaning, Got}
use Rattle.analysis_theory.specs.Typing.{Typing}
use Rattle.flow_theory.specs.declared.certificate.CertificateError.{CertificateError}
use Rattle.flow_theory.specs.declared.certificate.Entry.{Entry}
use Rattle.flow_theory.specs.declared.certificate.CertificateError.TheVariants.{Framing, Number, State, LeftOver}

-- writing

abbrev pub entry_bytes : {S : Type 0} → Meaning S → Entry S → List ℕ
entry_bytes m e = 18 ∷ (word (2 + length (m.bytes e.state)) ++ (word e.at ++ m.bytes e.state))

abbrev pub entries_bytes : {S : Type 0} → Meaning S → List (Entry S) → List ℕ
entries_bytes m [] = []
entries_bytes m (e ∷ es) = entry_bytes m e ++ entries_bytes m es

abbrev pub certificate_bytes : {S : Type 0} → Parts → Meaning S → List (Entry S) → List ℕ
certificate_bytes p m es = (17 ∷ (word 2 ++ word (length p.code))) ++ entries_bytes m es

-- which entries a certificate may have: their numbers rise from the least allowed and are in the code, their states are states that a
-- field can hold
pub data Rising {S : Type 0} (p : Parts) (m : Meaning S) : ℕ → List (Entry S) → Type 0 where
  none : {least : ℕ} → Rising p m least []
  more : {least : ℕ} {e : Entry S} {es : List (Entry S)} → least ≤ e.at → e.at < length p.code → m.is_state e.state ≡ true → length (m.bytes e.state) ≤ 65533 → Rising p m (e.at + 1) es → Rising p m least (e ∷ es)

-- reading, field by field

-- field 11 stands at the front, whole, with the instruction count
abbrev pub headed : Parts → List ℕ → Bool
headed p bs = nat_le 5 (length bs) && (byte_at bs 0 == 17 && (word_at bs 1 == 2 && word_at bs 3 == length p.code))

-- a field 12 stands at a place, whole, with a number at least
abbrev pub framed : List ℕ → ℕ → Bool
framed bs q =
    nat_le (q + 5) (length bs) && (byte_at bs q == 18 && (nat_le 2 (word_at bs (q + 1)) && nat_le (q + 3 + word_at bs (q + 1)) (length bs)))

-- the bytes of the field's state, behind its number
abbrev pub state_in : List ℕ → ℕ → List ℕ
state_in bs q = slice bs (q + 5) (word_at bs (q + 1) - 2)

abbrev pub on_front : {S : Type 0} → Entry S → Result (List (Entry S)) CertificateError → Result (List (Entry S)) CertificateError
on_front e (Ok es) = Ok (e ∷ es)
on_front e (Err f) = Err f

-- the state has to take all of the field's bytes
abbrev pub stated : {S : Type 0} → ℕ → ℕ → ℕ → Result (Got S) Unreadable → Result (List (Entry S)) CertificateError → Result (List (Entry S)) CertificateError
stated q number size (Ok g) rest =
    cond (g.length == size) (on_front (record { at = number; state = g.state }) rest) (Err (LeftOver q))
stated q number size (Err u) rest = Err (State q u.layer)

-- so many fields at most from a place on, whose numbers are at least the least allowed
abbrev pub entries_from : {S : Type 0} → Parts → Meaning S → List ℕ → ℕ → ℕ → ℕ → Result (List (Entry S)) CertificateError
entries_from p m bs zero q least = cond (nat_le (length bs) q) (Ok []) (Err (Framing q))
entries_from p m bs (suc n) q least =
    cond (nat_le (length bs) q) (Ok [])
    (cond (framed bs q)
    (cond (nat_le least (word_at bs (q + 3)) && nat_lt (word_at bs (q + 3)) (length p.code))
    (stated q (word_at bs (q + 3)) (word_at bs (q + 1) - 2) (m.parsed (state_in bs q))
    (entries_from p m bs n (q + 3 + word_at bs (q + 1)) (word_at bs (q + 3) + 1)))
    (Err (Number q)))
    (Err (Framing q)))

-- the entries of a certificate, or the first field that is wrong
abbrev pub entries_in : {S : Type 0} → Parts → Meaning S → List ℕ → Result (List (Entry S)) CertificateError
entries_in p m bs = cond (headed p bs) (entries_from p m bs (length bs) 5 0) (Err (Framing 0))

-- the entry of an instruction
abbrev pub entry_at : {S : Type 0} → List (Entry S) → Typing S
entry_at [] i = None
entry_at (e ∷ es) i = cond (e.at == i) (Some e.state) (entry_at es i)

-- one field: its entry, or what is wrong with it
abbrev pub entry_state : {S : Type 0} → ℕ → ℕ → ℕ → Result (Got S) Unreadable → Result (Entry S) CertificateError
entry_state q number size (Ok g) = cond (g.length == size) (Ok (record { at = number; state = g.state })) (Err (LeftOver q))
entry_state q number size (Err u) = Err (State q u.layer)

abbrev pub entry_in : {S : Type 0} → Parts → Meaning S → List ℕ → ℕ → ℕ → Result (Entry S) CertificateError
entry_in p m bs q least =
    cond (framed bs q)
    (cond (nat_le least (word_at bs (q + 3)) && nat_lt (word_at bs (q + 3)) (length p.code))
    (entry_state q (word_at bs (q + 3)) (word_at bs (q + 1) - 2) (m.parsed (state_in bs q))) (Err (Number q)))
    (Err (Framing q))
