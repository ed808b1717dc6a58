-- Typings, when one is stable, and what it means that a unit can't go wrong.
use Rattle.std.specs.Prelude.{◌≡◌, ℕ, ◌<◌, true, false, length, Some, None, Option, ◌≢◌}
use Rattle.format.specs.Parts.{Parts}
use Rattle.machine.specs.Values.{Vessel}
use Rattle.machine.specs.Configuration.{Outcome}
use Rattle.machine.specs.Runs.{Announced, start, steps}
use Rattle.machine.specs.Ways.{Leads, Expects}
use Rattle.analysis_theory.specs.Meaning.{Meaning}
use Rattle.analysis_theory.specs.Laws.{Accepts}

-- a state for some instructions, by their numbers
abbrev pub Typing : Type 0 → Type 0
Typing S = ℕ → Option S

-- an instruction has a state, and it is above t
abbrev pub HoldsAbove : {S : Type 0} → Meaning S → Option S → S → Type 0
HoldsAbove m (Some s) t = m.below t s ≡ true
HoldsAbove m None t = ⊥

-- where runs start: the instruction's number, and the state that arrives there
pub data Starts {S : Type 0} (m : Meaning S) : ℕ → S → Type 0 where
  rule : Starts m 0 m.start

-- A typing is stable if it gives states to instructions of the code, each start has a state above what arrives there, and,
-- wherever a state stands, the instruction is accepted and every way leads to an instruction with a state above the after-state.
pub record Stable {S : Type 0} (p : Parts) (m : Meaning S) (τ : Typing S) : Type 0 where
  pub inside : (i : ℕ) (s : S) → τ i ≡ Some s → i < length p.code
  pub states : (i : ℕ) (s : S) → τ i ≡ Some s → m.is_state s ≡ true
  pub begins : (i : ℕ) (s : S) → Starts m i s → HoldsAbove m (τ i) s
  pub flows : (i : ℕ) (s : S) → τ i ≡ Some s → Accepts (m.after i s) (λ t. (j : ℕ) → Leads p i j → HoldsAbove m (τ j) t)

-- a run that goes on stands inside the code, and a fault is neither fault 7, outside the code, nor one that is forbidden
abbrev pub Unharmed : Parts → (ℕ → Type 0) → Outcome → Type 0
Unharmed p harmless o = Expects (λ c. c.at < length p.code) (λ f. (f ≢ 7) × harmless f) o

-- the unit can't go wrong: for every announced vessel and every number of steps, the tagged machine stands inside the code
-- and meets no fault that the analysis forbids
abbrev pub NeverWrong : {S : Type 0} → Parts → Meaning S → Type 0
NeverWrong p m = (v : Vessel) → Announced p v → (n : ℕ) → Unharmed p (λ f. m.forbids f ≡ false) (steps p n (start p v))

-- a unit with a stable typing can't go wrong
abbrev pub StableIsSafe : {S : Type 0} → Parts → Meaning S → Type 0
StableIsSafe {S} p m = (τ : Typing S) → Stable p m τ → NeverWrong p m
