-- A query: the analysis in one byte, the instruction in two, and the bytes A and B, each with its length before it in two.
use Rattle.std.specs.Prelude.{◌≡◌, ℕ, ◌+◌, ◌<◌, ◌≤◌, ◌⊎◌, List, length, drop, Some, None, Option, slice_index}
use Rattle.corpus.specs.declared.cursor.Cursor.{Cursor}
use Rattle.corpus.specs.declared.query.Query.{Query}
use Rattle.corpus.specs.Taking.{two_bytes, IsPart, left}
use Rattle.corpus.specs.Choices.{choice_of}

-- the bytes from the instruction on, those from A's length on, those from B's length on, and those after B
abbrev pub from_instruction : List ℕ → List ℕ
from_instruction bs = drop 1 bs

abbrev pub from_a : List ℕ → List ℕ
from_a bs = drop 2 (from_instruction bs)

abbrev pub from_b : List ℕ → List ℕ
from_b bs = drop (2 + two_bytes (from_a bs)) (from_a bs)

abbrev pub after_b : List ℕ → List ℕ
after_b bs = drop (2 + two_bytes (from_b bs)) (from_b bs)

-- the query that bytes begin with
pub record IsQuery (bs : List ℕ) (query : Query) : Type 0 where
  pub whole : 2 + two_bytes (from_b bs) ≤ length (from_b bs)
  pub choice : Some query.choice ≡ choice_of (slice_index bs 0)
  pub instruction : query.instruction ≡ two_bytes (from_instruction bs)
  pub a : IsPart 2 (two_bytes (from_a bs)) (from_a bs) query.a
  pub b : IsPart 2 (two_bytes (from_b bs)) (from_b bs) query.b

-- the query that bytes begin with is taken, and those after it are left; or its analysis is none or there is no whole query,
-- and all are left
abbrev pub TakesQuery : Cursor → Option Query → Cursor → Type 0
TakesQuery before None after =
    ((choice_of (slice_index (left before) 0) ≡ None) ⊎ (length (from_b (left before)) < 2 + two_bytes (from_b (left before))))
    × (left after ≡ left before)
TakesQuery before (Some query) after = IsQuery (left before) query × (left after ≡ after_b (left before))
