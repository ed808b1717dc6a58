-- What is taken from the front of bytes, and what is left. Numbers have their high byte first.
use Rattle.std.specs.Prelude.{◌≡◌, ℕ, ◌+◌, ◌*◌, ◌<◌, ◌≤◌, List, length, take, drop, Some, None, Option, slice_index}
use Rattle.std.specs.Borrow.{Bor}
use Rattle.corpus.specs.declared.cursor.Cursor.{Cursor}
use Rattle.corpus.specs.declared.unit_bytes.UnitBytes.{UnitBytes}

-- the number that bytes begin with, in two bytes and in four
abbrev pub two_bytes : List ℕ → ℕ
two_bytes bs = slice_index bs 0 * 256 + slice_index bs 1

abbrev pub four_bytes : List ℕ → ℕ
four_bytes bs = slice_index bs 0 * 16777216 + slice_index bs 1 * 65536 + slice_index bs 2 * 256 + slice_index bs 3

-- a part is the n bytes after the first k
abbrev pub IsPart : ℕ → ℕ → List ℕ → Bor (List ℕ) → Type 0
IsPart k n bs part = part.now ≡ take n (drop k bs)

-- the bytes that are left
abbrev pub left : Cursor → List ℕ
left c = c.rest.now

-- the first n bytes are taken as something that is as said, and those after them are left; or there are fewer, and all are
-- left
abbrev pub Takes : {X : Type 0} → ℕ → (X → Type 0) → Cursor → Option X → Cursor → Type 0
Takes n Is before None after = (length (left before) < n) × (left after ≡ left before)
Takes n Is before (Some x) after = (n ≤ length (left before)) × Is x × (left after ≡ drop n (left before))

abbrev pub TakesPart : ℕ → Cursor → Option (Bor (List ℕ)) → Cursor → Type 0
TakesPart n before r after = Takes n (IsPart 0 n (left before)) before r after

abbrev pub TakesArray : ℕ → Cursor → Option (List ℕ) → Cursor → Type 0
TakesArray n before r after = Takes n (λ bytes. bytes ≡ take n (left before)) before r after

abbrev pub TakesByte : Cursor → Option ℕ → Cursor → Type 0
TakesByte before r after = Takes 1 (λ b. b ≡ slice_index (left before) 0) before r after

abbrev pub TakesWord : Cursor → Option ℕ → Cursor → Type 0
TakesWord before r after = Takes 2 (λ n. n ≡ two_bytes (left before)) before r after

abbrev pub TakesLongWord : Cursor → Option ℕ → Cursor → Type 0
TakesLongWord before r after = Takes 4 (λ n. n ≡ four_bytes (left before)) before r after

-- as many bytes as the number before them says, in two bytes and in four
abbrev pub TakesField : Cursor → Option (Bor (List ℕ)) → Cursor → Type 0
TakesField before r after =
    let n = two_bytes (left before) in
    Takes (2 + n) (IsPart 2 n (left before)) before r after

abbrev pub TakesBlob : Cursor → Option (Bor (List ℕ)) → Cursor → Type 0
TakesBlob before r after =
    let n = four_bytes (left before) in
    Takes (4 + n) (IsPart 4 n (left before)) before r after

-- a unit's bytes are taken as a blob is
abbrev pub TakesUnit : Cursor → Option UnitBytes → Cursor → Type 0
TakesUnit before r after =
    let n = four_bytes (left before) in
    Takes (4 + n) (λ unit. IsPart 4 n (left before) unit.bytes) before r after
