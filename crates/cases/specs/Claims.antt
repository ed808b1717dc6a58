-- What a worked example can claim, and what each claim means, over the definitions that the contracts use.
use Rattle.std.specs.Prelude.{◌≡◌, ℕ, ◌-◌, true, List, length, is_ok, Err}
use Rattle.kinds.specs.declared.kind.Kind.{Kind}
use Rattle.format.specs.declared.refusal.ReadError.{ReadError}
use Rattle.format.specs.declared.refusal.Refusal.{Refusal}
use Rattle.format.specs.Parts.{Parts}
use Rattle.format.specs.Encoding.{encode}
use Rattle.format.specs.Reading.{reading}
use Rattle.format.specs.Refusals.{read_refusal}
use Rattle.lattice.specs.Order.{Least}
use Rattle.machine.specs.Values.{Vessel}
use Rattle.machine.specs.Configuration.{Configuration, Outcome, goes}
use Rattle.machine.specs.Runs.{start, steps}

pub data Claim : Type 0 where
  -- these parts are written in so many bytes, and read
  reads : Parts → ℕ → Claim
  -- these bytes are refused with these five numbers
  refuses : List ℕ → Refusal → Claim
  -- in this unit, the third kind is the least above the other two
  least : Parts → Kind → Kind → Kind → Claim
  -- under this rule, the run of this vessel ends so with this step
  runs : Parts → Vessel → ℕ → Outcome → Claim

abbrev pub Holds : Claim → Type 0
Holds (reads p n) = (length (encode p) ≡ n) × (is_ok (reading (encode p)) ≡ true)
Holds (refuses bs r) = (e : ReadError) × (reading bs ≡ Err e) × (read_refusal e ≡ r)
Holds (least p a b k) = Least p a b k
Holds (runs p v n o) = ((c : Configuration) × (steps p (n - 1) (start p v) ≡ goes c)) × (steps p n (start p v) ≡ o)
