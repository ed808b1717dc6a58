-- What the methods of an analysis answer and leave, where its meaning says so.
use Rattle.std.specs.Prelude.{◌≡◌, ℕ, Bool, true, cond, ◌&&◌, List, ◌++◌, length, drop, Some, None, Ok, Err, MatchBool, Option, Result, ◌≢◌, nat_le}
use Rattle.analysis_theory.specs.declared.fault.Fault.{Fault}
use Rattle.analysis_theory.specs.declared.fault.NoJoin.{NoJoin}
use Rattle.analysis_theory.specs.declared.fault.Unreadable.{Unreadable}
use Rattle.analysis_theory.specs.Meaning.{Meaning, Got}

-- an effect, where its meaning is o: the state is the one after it, and a fault leaves it as it was
abbrev pub Effected : {S : Type 0} → Result S Fault → S → Result (Unit {0}) Fault → S → Type 0
Effected (Ok t) before r after = (r ≡ Ok tt) × (after ≡ t)
Effected (Err f) before r after = (r ≡ Err f) × (after ≡ before)

-- a join, where its meaning is o: the state is the join, and the answer tells whether it rose; a refusal leaves it as it was
abbrev pub Joined : {S : Type 0} → Option S → S → Result Bool NoJoin → S → Type 0
Joined (Some c) before (Ok rose) after = (after ≡ c) × MatchBool rose (c ≢ before) (c ≡ before)
Joined (Some c) before (Err e) after = ⊥
Joined None before (Ok rose) after = ⊥
Joined None before (Err e) after = after ≡ before

-- the length of a writing, where a field can hold it: a field has 65,535 bytes at most, and two are the instruction's number
abbrev pub size_of : List ℕ → Option ℕ
size_of bs = cond (nat_le (length bs) 65533) (Some (length bs)) None

-- whether a writing can be held by a field and by a buffer
abbrev pub fits : List ℕ → List ℕ → Bool
fits bs out = nat_le (length bs) 65533 && nat_le (length bs) (length out)

-- a writing goes to the front of the buffer if it fits, and the answer is its length; else the buffer is as it was
abbrev pub written_in : List ℕ → List ℕ → List ℕ
written_in bs out = cond (fits bs out) (bs ++ drop (length bs) out) out

abbrev pub written_length : List ℕ → List ℕ → Option ℕ
written_length bs out = cond (fits bs out) (Some (length bs)) None

-- a reading, where its meaning is o
abbrev pub ReadAs : {S : Type 0} → Result (Got S) Unreadable → Result (S × ℕ) Unreadable → Type 0
ReadAs (Ok g) r = r ≡ Ok (g.state, g.length)
ReadAs (Err u) r = r ≡ Err u

-- a state that was written to the front of a buffer and read back: where it fits, the same state and its length
abbrev pub Survives : {S : Type 0} → Meaning S → S → List ℕ → Option (Result (S × ℕ) Unreadable) → Type 0
Survives m s out r = m.is_state s ≡ true → MatchBool (fits (m.bytes s) out) (r ≡ Some (Ok (s, length (m.bytes s)))) (r ≡ None)
