-- What the pair of two analyses of one unit means: the left part goes before the right part in effect, join and bytes, and a
-- part's fault is the pair's.
use Rattle.std.specs.Prelude.{ℕ, ◌+◌, ◌&&◌, ◌||◌, List, ◌++◌, drop, Some, None, Ok, Err, Option, Result}
use Rattle.analysis_theory.specs.declared.both.Both.{Both}
use Rattle.analysis_theory.specs.declared.fault.Fault.{Fault}
use Rattle.analysis_theory.specs.declared.fault.Unreadable.{Unreadable}
use Rattle.analysis_theory.specs.Meaning.{Meaning, Got}

abbrev pub both : {A B : Type 0} → A → B → Both A B
both a b = record { left = a; right = b }

-- a join that is refused by either part is refused
abbrev pub both_join : {A B : Type 0} → Option A → Option B → Option (Both A B)
both_join (Some a) (Some b) = Some (both a b)
both_join (Some a) None = None
both_join None o = None

-- the left part's fault comes first
abbrev pub both_after : {A B : Type 0} → Result A Fault → Result B Fault → Result (Both A B) Fault
both_after (Ok a) (Ok b) = Ok (both a b)
both_after (Ok a) (Err f) = Err f
both_after (Err f) r = Err f

abbrev pub got_both : {A B : Type 0} → Got A → Result (Got B) Unreadable → Result (Got (Both A B)) Unreadable
got_both g (Ok h) = Ok (record { state = both g.state h.state; length = g.length + h.length })
got_both g (Err u) = Err u

-- the right part is read from the bytes after the left part
abbrev pub then_read : {A B : Type 0} → Result (Got A) Unreadable → (ℕ → Result (Got B) Unreadable) → Result (Got (Both A B)) Unreadable
then_read (Ok g) rest = got_both g (rest g.length)
then_read (Err u) rest = Err u

abbrev pub both_parsed : {A B : Type 0} → (List ℕ → Result (Got A) Unreadable) → (List ℕ → Result (Got B) Unreadable) → List ℕ → Result (Got (Both A B)) Unreadable
both_parsed f g bs = then_read (f bs) (λ n. g (drop n bs))

abbrev pub pair_meaning : {A B : Type 0} → Meaning A → Meaning B → Meaning (Both A B)
pair_meaning l r = record {
  is_state = λ s. l.is_state s.left && r.is_state s.right;
  start = both l.start r.start;
  below = λ a b. l.below a.left b.left && r.below a.right b.right;
  join = λ a b. both_join (l.join a.left b.left) (r.join a.right b.right);
  height = λ s. l.height s.left + r.height s.right;
  after = λ i s. both_after (l.after i s.left) (r.after i s.right);
  describes = λ s c. l.describes s.left c × r.describes s.right c;
  forbids = λ f. l.forbids f || r.forbids f;
  has_layer = λ n. l.has_layer n || r.has_layer n;
  bytes = λ s. l.bytes s.left ++ r.bytes s.right;
  parsed = both_parsed l.parsed r.parsed;
}
