-- Bytes and two-byte numbers, the high byte first, and tests over a range of numbers.
use Rattle.std.specs.Prelude.{◌≡◌, ℕ, zero, suc, ◌+◌, ◌*◌, ◌/◌, ◌%◌, ◌<◌, Bool, true, cond, ◌&&◌, List, [], ◌∷◌, map, length, take, drop, Some, None, Option, slice_index}
use Rattle.std.specs.List.{range_with_len}

-- each number of the list is a byte
abbrev pub AllBytes : List ℕ → Type 0
AllBytes bs = (k : ℕ) → k < length bs → slice_index bs k < 256

-- the byte at a place, and 0 past the end
abbrev pub byte_at : List ℕ → ℕ → ℕ
byte_at bs i = slice_index bs i

-- the two-byte number at a place
abbrev pub word_at : List ℕ → ℕ → ℕ
word_at bs i = byte_at bs i * 256 + byte_at bs (i + 1)

-- the two bytes of a number
abbrev pub word : ℕ → List ℕ
word n = n / 256 ∷ n % 256 ∷ []

-- the bytes from a place on, so many
abbrev pub slice : List ℕ → ℕ → ℕ → List ℕ
slice bs at n = take n (drop at bs)

-- f 0, f 1, .., f (n - 1)
abbrev pub tabulate : {A : Type 0} → ℕ → (ℕ → A) → List A
tabulate n f = map f (range_with_len 0 n)

-- whether a test passes at each number below n
abbrev pub up_to : ℕ → (ℕ → Bool) → Bool
up_to zero f = true
up_to (suc n) f = f n && up_to n f

-- of the n numbers from i on, the first at which a test fails
abbrev pub first_failing : (ℕ → Bool) → ℕ → ℕ → Option ℕ
first_failing f i zero = None
first_failing f i (suc n) = cond (f i) (first_failing f (suc i) n) (Some i)

-- an answer for k is what a test gives there, if the test passes at each number below k
pub record Follows (f : ℕ → Bool) (k : ℕ) (b : Bool) : Type 0 where
  pub after : ((j : ℕ) → j < k → f j ≡ true) → b ≡ f k
