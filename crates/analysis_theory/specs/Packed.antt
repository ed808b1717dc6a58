-- The meaning of an analysis whose states are kept in another form: S is the form, A the states themselves.
use Rattle.std.specs.Prelude.{Some, None, Ok, Err, Option, Result}
use Rattle.analysis_theory.specs.declared.fault.Fault.{Fault}
use Rattle.analysis_theory.specs.declared.fault.Unreadable.{Unreadable}
use Rattle.analysis_theory.specs.Meaning.{Meaning, Got}

abbrev pub packed_join : {A S : Type 0} → (A → S) → Option A → Option S
packed_join pack (Some a) = Some (pack a)
packed_join pack None = None

abbrev pub packed_after : {A S : Type 0} → (A → S) → Result A Fault → Result S Fault
packed_after pack (Ok a) = Ok (pack a)
packed_after pack (Err f) = Err f

abbrev pub packed_read : {A S : Type 0} → (A → S) → Result (Got A) Unreadable → Result (Got S) Unreadable
packed_read pack (Ok g) = Ok (record { state = pack g.state; length = g.length })
packed_read pack (Err u) = Err u

-- `view` is the state that a form stands for, and `pack` the form of a state
abbrev pub packed_meaning : {A S : Type 0} → (S → A) → (A → S) → Meaning A → Meaning S
packed_meaning view pack m = record {
  is_state = λ s. m.is_state (view s);
  start = pack m.start;
  below = λ a b. m.below (view a) (view b);
  join = λ a b. packed_join pack (m.join (view a) (view b));
  height = λ s. m.height (view s);
  after = λ i s. packed_after pack (m.after i (view s));
  describes = λ s c. m.describes (view s) c;
  forbids = m.forbids;
  has_layer = m.has_layer;
  bytes = λ s. m.bytes (view s);
  parsed = λ bs. packed_read pack (m.parsed bs);
}
