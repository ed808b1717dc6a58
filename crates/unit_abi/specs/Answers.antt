-- What a C caller is told of a reading: one number, 0 where the bytes are read.
use Rattle.std.specs.Prelude.{ℕ, Ok, Err, Result}
use Rattle.format.specs.declared.layout.Layout.{Layout}
use Rattle.format.specs.declared.refusal.ReadError.{ReadError}
use Rattle.format.specs.Refusals.{read_refusal}

-- 0 for bytes that are read, else the number of the refusal
abbrev pub answer_of : Result Layout ReadError → ℕ
answer_of (Ok l) = 0
answer_of (Err e) = (read_refusal e).number

-- how often one reading is refused: not at all, or once
abbrev pub refused_once : Result Layout ReadError → ℕ
refused_once (Ok l) = 0
refused_once (Err e) = 1
