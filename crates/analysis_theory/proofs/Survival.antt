-- A state that was written is read back.
use Rattle.std.proofs.Common.{◌≡◌, ℕ, Bool, true, false, cond, List, ◌++◌, length, drop, Some, None, Ok, MatchBool, Option, Result, sym, ap, ◌∙◌, subst}
use Rattle.std.proofs.lemmas.Option.{none-some}
use Rattle.format.specs.Parts.{Parts}
use Rattle.analysis_theory.specs.declared.fault.Unreadable.{Unreadable}
use Rattle.analysis_theory.specs.Meaning.{Meaning, Got}
use Rattle.analysis_theory.specs.Laws.{Laws}
use Rattle.analysis_theory.specs.Methods.{fits, written_in, written_length, ReadAs, Survives}

module _ {S : Type 0} (m : Meaning S) (s : S) (out : List ℕ) where
  -- what does not fit is not read
  pub unwritten_survives : (r : Option (Result (S × ℕ) Unreadable)) → None ≡ written_length (m.bytes s) out → r ≡ None → Survives m s out r
  unwritten_survives r e f k = go (fits (m.bytes s) out) e
    where
      go : (b : Bool) → None ≡ cond b (Some (length (m.bytes s))) None → MatchBool b (r ≡ Some (Ok (s, length (m.bytes s)))) (r ≡ None)
      go true h = absurd (none-some _ h)
      go false h = f

  -- what fits is read from the buffer, whatever stands behind it
  pub written_survives : {p : Parts} → Laws p m → (n : ℕ) (held : List ℕ) (r : Result (S × ℕ) Unreadable) → Some n ≡ written_length (m.bytes s) out → held ≡ written_in (m.bytes s) out → ReadAs (m.parsed held) r → Survives m s out (Some r)
  written_survives laws n held r e f h k = go (fits (m.bytes s) out) e f
    where
      go : (b : Bool) → Some n ≡ cond b (Some (length (m.bytes s))) None → held ≡ cond b (m.bytes s ++ drop (length (m.bytes s)) out) out → MatchBool b (Some r ≡ Some (Ok (s, length (m.bytes s)))) (Some r ≡ None)
      go true q w =
          let g : m.parsed held ≡ Ok (record { state = s; length = length (m.bytes s) }) =
          ap m.parsed w ∙ laws.reads_back s (drop (length (m.bytes s)) out) k in
          ap Some (subst (λ (o : Result (Got S) Unreadable). ReadAs o r) g h)
      go false q w = absurd (none-some _ (sym q))
