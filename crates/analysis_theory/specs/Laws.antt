-- What an analysis has to keep, so that it can be trusted. Everything that is proved of checking rests on these laws alone.
use Rattle.std.specs.Prelude.{◌≡◌, ℕ, ◌<◌, true, false, ◌⊎◌, List, ◌++◌, length, drop, Some, None, Ok, Err, Result, ◌≢◌}
use Rattle.format.specs.Bytes.{AllBytes}
use Rattle.format.specs.Parts.{Parts}
use Rattle.analysis_theory.specs.declared.fault.Fault.{Fault}
use Rattle.analysis_theory.specs.declared.fault.Unreadable.{Unreadable}
use Rattle.machine.specs.Values.{Vessel}
use Rattle.machine.specs.Configuration.{Configuration, Outcome}
use Rattle.machine.specs.Step.{step}
use Rattle.machine.specs.Runs.{Announced, start}
use Rattle.machine.specs.Ways.{Expects}
use Rattle.analysis_theory.specs.Meaning.{Meaning, Got}

-- an instruction is accepted, and the state after it is as P says
abbrev pub Accepts : {S : Type 0} → Result S Fault → (S → Type 0) → Type 0
Accepts (Ok s) P = P s
Accepts (Err f) P = ⊥

-- what a step may lead to where an analysis has accepted it with the state t after it: t describes a run that goes on, and a
-- fault is none that the analysis forbids
abbrev pub Allowed : {S : Type 0} → Meaning S → S → Outcome → Type 0
Allowed m t o = Expects (m.describes t) (λ f. m.forbids f ≡ false) o

pub record Laws {S : Type 0} (p : Parts) (m : Meaning S) : Type 0 where
  -- states stay among states
  pub start_is_state : m.is_state m.start ≡ true
  pub after_is_state : (i : ℕ) (s t : S) → m.is_state s ≡ true → m.after i s ≡ Ok t → m.is_state t ≡ true
  pub join_is_state : (a b c : S) → m.is_state a ≡ true → m.is_state b ≡ true → m.join a b ≡ Some c → m.is_state c ≡ true
  -- the order is reflexive, transitive and antisymmetric
  pub reflexive : (a : S) → m.is_state a ≡ true → m.below a a ≡ true
  pub transitive : (a b c : S) → m.is_state a ≡ true → m.is_state b ≡ true → m.is_state c ≡ true → m.below a b ≡ true → m.below b c ≡ true → m.below a c ≡ true
  pub antisymmetric : (a b : S) → m.is_state a ≡ true → m.is_state b ≡ true → m.below a b ≡ true → m.below b a ≡ true → a ≡ b
  -- a join is above both states, and below every state above both; it is refused only where no state is above both
  pub above_left : (a b c : S) → m.is_state a ≡ true → m.is_state b ≡ true → m.join a b ≡ Some c → m.below a c ≡ true
  pub above_right : (a b c : S) → m.is_state a ≡ true → m.is_state b ≡ true → m.join a b ≡ Some c → m.below b c ≡ true
  pub least : (a b c d : S) → m.is_state a ≡ true → m.is_state b ≡ true → m.is_state d ≡ true → m.join a b ≡ Some c → m.below a d ≡ true → m.below b d ≡ true → m.below c d ≡ true
  pub refused : (a b d : S) → m.is_state a ≡ true → m.is_state b ≡ true → m.is_state d ≡ true → m.join a b ≡ None → m.below a d ≡ true → m.below b d ≢ true
  -- the height falls from a state to any other above it
  pub falls : (a b : S) → m.is_state a ≡ true → m.is_state b ≡ true → m.below a b ≡ true → (a ≡ b) ⊎ (m.height b < m.height a)
  -- what is accepted is accepted for every state below, with an after-state below
  pub monotone : (i : ℕ) (a b d : S) → m.is_state a ≡ true → m.is_state b ≡ true → m.below a b ≡ true → m.after i b ≡ Ok d → Accepts (m.after i a) (λ c. m.below c d ≡ true)
  -- the start state describes every start
  pub describes_start : (v : Vessel) → Announced p v → m.describes m.start (start p v)
  -- what a state describes, those above it describe
  pub describes_above : (a b : S) (c : Configuration) → m.is_state a ≡ true → m.is_state b ≡ true → m.below a b ≡ true → m.describes a c → m.describes b c
  -- where a state describes a configuration and the instruction is accepted, the step meets no forbidden fault, and the
  -- after-state describes a run that goes on
  pub safe : (s t : S) (c : Configuration) → m.is_state s ≡ true → m.describes s c → m.after c.at s ≡ Ok t → Allowed m t (step p c)
  -- bytes that begin with a state's writing are read as that state and its length, and no others are read
  pub writes_bytes : (s : S) → m.is_state s ≡ true → AllBytes (m.bytes s)
  pub reads_back : (s : S) (rest : List ℕ) → m.is_state s ≡ true → m.parsed (m.bytes s ++ rest) ≡ Ok (record { state = s; length = length (m.bytes s) })
  pub reads_only : (bs : List ℕ) (g : Got S) → AllBytes bs → m.parsed bs ≡ Ok g → (m.is_state g.state ≡ true) × (g.length ≡ length (m.bytes g.state)) × (bs ≡ m.bytes g.state ++ drop g.length bs)
  -- what is refused is refused under a layer of the analysis, and 0 is none
  pub layers_from_1 : m.has_layer 0 ≡ false
  pub fault_layer : (i : ℕ) (s : S) (f : Fault) → m.after i s ≡ Err f → m.has_layer f.layer ≡ true
  pub refusal_layer : (bs : List ℕ) (u : Unreadable) → m.parsed bs ≡ Err u → m.has_layer u.layer ≡ true
