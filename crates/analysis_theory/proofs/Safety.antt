-- Under a stable typing nothing goes wrong: the machine stands at an instruction with a state that describes it.
use Rattle.std.proofs.Common.{◌≡◌, ℕ, zero, suc, ◌<◌, true, false, length, Some, None, Ok, Err, Option, Result, refl}
use Rattle.format.specs.Parts.{Parts}
use Rattle.machine.specs.Values.{Vessel}
use Rattle.machine.specs.Configuration.{Configuration, Outcome, goes, returned, stopped, fault}
use Rattle.machine.specs.Step.{step}
use Rattle.machine.specs.Runs.{Announced, start, steps, further}
use Rattle.machine.specs.Ways.{Leads, Expects}
use Rattle.machine.proofs.Outline.{step_along}
use Rattle.analysis_theory.specs.declared.fault.Fault.{Fault}
use Rattle.analysis_theory.specs.Meaning.{Meaning}
use Rattle.analysis_theory.specs.Laws.{Laws, Accepts, Allowed}
use Rattle.analysis_theory.specs.Typing.{Typing, HoldsAbove, Stable, rule, Unharmed, NeverWrong}

module _ {S : Type 0} {p : Parts} {m : Meaning S} (laws : Laws p m) (τ : Typing S) (stable : Stable p m τ) where
  -- the configuration stands at an instruction with a state that describes it
  record Told (c : Configuration) : Type 0 where
    state : S
    here : τ c.at ≡ Some state
    described : m.describes state c

  -- where a state above t stands, and t describes, the configuration is told of
  arrives : (c : Configuration) (t : S) (o : Option S) → τ c.at ≡ o → m.is_state t ≡ true → HoldsAbove m o t → m.describes t c → Told c
  arrives c t (Some s) e k h d =
      record { state = s; here = e; described = laws.describes_above t s c k (stable.states c.at s e) h d }
  arrives c t None e k h d = absurd h

  -- of each outcome: a run that goes on is told of, and a fault is harmless
  abbrev Fine : Outcome → Type 0
  Fine o = Expects Told (λ f. (f ≡ 7 → ⊥) × (m.forbids f ≡ false)) o

  -- what the two parts of a step's promise come to
  lands : (o : Outcome) (i : ℕ) (t : S) → m.is_state t ≡ true → ((j : ℕ) → Leads p i j → HoldsAbove m (τ j) t) → Expects (λ d. Leads p i d.at) (λ f. f ≡ 7 → ⊥) o → Allowed m t o → Fine o
  lands (goes d) i t k above way h = arrives d t (τ d.at) refl k (above d.at way) h
  lands (returned b) i t k above way h = tt
  lands (stopped s) i t k above way h = tt
  lands (fault f) i t k above way h = (way, h)

  accepted_step : (c : Configuration) (s : S) (r : Result S Fault) → m.is_state s ≡ true → m.describes s c → c.at < length p.code → m.after c.at s ≡ r → Accepts r (λ t. (j : ℕ) → Leads p c.at j → HoldsAbove m (τ j) t) → Fine (step p c)
  accepted_step c s (Ok t) k d l e above =
      lands (step p c) c.at t (laws.after_is_state c.at s t k e) above (step_along p c l) (laws.safe s t c k d e)
  accepted_step c s (Err f) k d l e above = absurd above

  one_step : (c : Configuration) → Told c → Fine (step p c)
  one_step c h =
      accepted_step c h.state (m.after c.at h.state) (stable.states c.at h.state h.here) h.described
      (stable.inside c.at h.state h.here) refl (stable.flows c.at h.state h.here)

  goes_further : (o : Outcome) → Fine o → Fine (further p o)
  goes_further (goes c) h = one_step c h
  goes_further (returned b) h = tt
  goes_further (stopped s) h = tt
  goes_further (fault f) h = h

  every_run : (v : Vessel) → Announced p v → (n : ℕ) → Fine (steps p n (start p v))
  every_run v a zero =
      arrives (start p v) m.start (τ 0) refl laws.start_is_state (stable.begins 0 m.start rule) (laws.describes_start v a)
  every_run v a (suc n) = goes_further (steps p n (start p v)) (every_run v a n)

  unharmed : (o : Outcome) → Fine o → Unharmed p (λ f. m.forbids f ≡ false) o
  unharmed (goes c) h = stable.inside c.at h.state h.here
  unharmed (returned b) h = tt
  unharmed (stopped s) h = tt
  unharmed (fault f) h = h

  pub stable_never_wrong : NeverWrong p m
  stable_never_wrong v a n = unharmed (steps p n (start p v)) (every_run v a n)
