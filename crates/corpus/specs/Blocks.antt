-- A block: a unit and the queries on it, each with its length before it in four bytes.
use Rattle.std.specs.Prelude.{◌≡◌, ℕ, ◌+◌, ◌<◌, ◌≤◌, List, length, drop, Some, None, Option}
use Rattle.corpus.specs.declared.cursor.Cursor.{Cursor}
use Rattle.corpus.specs.declared.block.Block.{Block}
use Rattle.corpus.specs.Taking.{four_bytes, IsPart, left}

-- the bytes from the length of the queries on, and those after the queries
abbrev pub from_queries : List ℕ → List ℕ
from_queries bs = drop (4 + four_bytes bs) bs

abbrev pub after_queries : List ℕ → List ℕ
after_queries bs = drop (4 + four_bytes (from_queries bs)) (from_queries bs)

-- the block that bytes begin with
pub record IsBlock (bs : List ℕ) (block : Block) : Type 0 where
  pub whole : 4 + four_bytes (from_queries bs) ≤ length (from_queries bs)
  pub unit : IsPart 4 (four_bytes bs) bs block.unit
  pub queries : IsPart 4 (four_bytes (from_queries bs)) (from_queries bs) block.queries

-- the block that bytes begin with is taken, and those after it are left; or there is no whole one, and all are left
abbrev pub TakesBlock : Cursor → Option Block → Cursor → Type 0
TakesBlock before None after =
    (length (from_queries (left before)) < 4 + four_bytes (from_queries (left before))) × (left after ≡ left before)
TakesBlock before (Some block) after = IsBlock (left before) block × (left after ≡ after_queries (left before))
