-- The five numbers of each refusal of a reading: which rule, where, and three that say nothing here.
use Rattle.std.specs.Prelude.{ℕ}
use Rattle.format.specs.declared.refusal.ReadError.{ReadError}
use Rattle.format.specs.declared.refusal.ReadError.TheVariants.{Framing, Head, Class, Slot, Code}
use Rattle.format.specs.declared.refusal.Refusal.{Refusal}

abbrev pub refusal_at : ℕ → ℕ → Refusal
refusal_at n p = record { number = n; place = p; layer = 0; fault = 0; detail = 0 }

abbrev pub read_refusal : ReadError → Refusal
read_refusal (Framing p) = refusal_at 1 p
read_refusal Head = refusal_at 2 0
read_refusal (Class i) = refusal_at 3 i
read_refusal (Slot i) = refusal_at 4 i
read_refusal (Code i) = refusal_at 5 i
