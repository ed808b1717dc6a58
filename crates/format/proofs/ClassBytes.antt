-- The 19 bytes of a class are those of the class that they say exactly if its unused field kinds are 0000.
use Rattle.std.proofs.Common.{◌≡◌, ℕ, suc, ◌+◌, ◌-◌, ◌*◌, ◌/◌, ◌%◌, ◌<◌, ◌≤◌, List, ◌∷◌, ◌++◌, length, replicate, sym, refl, ap, ◌∙◌, ⊎_elim, arith}
use Rattle.std.specs.List.{flat_map, range_with_len}
use Rattle.std.proofs.lemmas.Bool.{cases_eq, cases_lt}
use Rattle.std.proofs.lemmas.List.{get_or-append_right, get_or-replicate, get_or_past, length-replicate}
use Rattle.kinds.specs.declared.kind.Kind.{Kind}
use Rattle.kinds.specs.declared.kind.Kind.TheVariants.{Int}
use Rattle.format.specs.Bytes.{AllBytes, byte_at, word_at, slice, tabulate}
use Rattle.format.specs.Encoding.{kind_bytes, class_bytes}
use Rattle.format.specs.Decoding.{kind_at, class_at}
use Rattle.format.specs.Tests.{count_at, code_at}
use Rattle.format.proofs.Slices.{slice_append, byte_said, zeros, chunks, joined_map, length_joined}
use Rattle.format.proofs.Words.{word_of}
use Rattle.format.proofs.Views.{length_tabulate}
use Rattle.format.proofs.SlotRecords.{kind_here}
use Rattle.format.proofs.Framing.{three}

-- where two-byte numbers are 0, so are their bytes
zero_bytes : (bs : List ℕ) (at n : ℕ) → ((k : ℕ) → k < n → word_at bs (at + 2 * k) ≡ 0) → (j : ℕ) → j < 2 * n → byte_at bs (at + j) ≡ 0
zero_bytes bs at n h j l =
    let w = h (j / 2) (omega arith) in
    ⊎_elim
    (λ (e : j % 2 ≡ 0). let s : at + j ≡ at + 2 * (j / 2) = omega arith in ap (byte_at bs) s ∙ omega (arith, w))
    (λ (ne : j % 2 ≡ 0 → ⊥). let s : at + j ≡ at + 2 * (j / 2) + 1 = omega (arith, ne) in ap (byte_at bs) s ∙ omega (arith, w))
    (cases_eq (j % 2) 0)

-- the kinds of the fields of the class at a place, and their bytes
said_kinds : List ℕ → ℕ → List Kind
said_kinds bs at = tabulate (count_at bs at) (λ k. kind_at bs (at + 3 + 2 * k))

module _ (bs : List ℕ) (at : ℕ) (bytes : AllBytes bs) (fits : at + 19 ≤ length bs) (few : count_at bs at ≤ 8) where
  kinds_here : slice bs (at + 3) (2 * count_at bs at) ≡ flat_map kind_bytes (said_kinds bs at)
  unfolding said_kinds
  kinds_here =
      let z : at + 3 + 2 * 0 ≡ at + 3 = omega arith in
      ap (λ k. slice bs k (2 * count_at bs at)) (sym z)
      ∙ chunks bs 2 (at + 3) (λ k. kind_bytes (kind_at bs (at + 3 + 2 * k))) 0 (count_at bs at) (λ i _ l. kind_here bs (at + 3 + 2 * i) bytes (omega arith))
      ∙ sym (joined_map kind_bytes (λ k. kind_at bs (at + 3 + 2 * k)) (range_with_len 0 (count_at bs at)))

  unused_here : ((k : ℕ) → count_at bs at ≤ k → k < 8 → code_at bs at k ≡ 0) → slice bs (at + 3 + 2 * count_at bs at) (2 * (8 - count_at bs at)) ≡ replicate (2 * (8 - count_at bs at)) 0
  unused_here h =
      zeros bs (at + 3 + 2 * count_at bs at) (2 * (8 - count_at bs at)) (omega arith)
      (zero_bytes bs (at + 3 + 2 * count_at bs at) (8 - count_at bs at)
      (λ k l. let s : at + 3 + 2 * count_at bs at + 2 * k ≡ at + 3 + 2 * (count_at bs at + k) = omega arith in ap (word_at bs) s ∙ h (count_at bs at + k) (omega arith) (omega arith)))

  sixteen : ((k : ℕ) → count_at bs at ≤ k → k < 8 → code_at bs at k ≡ 0) → slice bs (at + 3) 16 ≡ flat_map kind_bytes (said_kinds bs at) ++ replicate (2 * (8 - count_at bs at)) 0
  sixteen h =
      let s : 16 ≡ 2 * count_at bs at + 2 * (8 - count_at bs at) = omega arith in
      ap (slice bs (at + 3)) s
      ∙ slice_append bs (at + 3) (2 * count_at bs at) (2 * (8 - count_at bs at))
      ∙ ap (λ ys. ys ++ slice bs (at + 3 + 2 * count_at bs at) (2 * (8 - count_at bs at))) kinds_here
      ∙ ap (λ ys. flat_map kind_bytes (said_kinds bs at) ++ ys) (unused_here h)

  -- what the class at a place is written as
  written : List ℕ
  written = byte_at bs at ∷ byte_at bs (at + 1) ∷ count_at bs at ∷ (flat_map kind_bytes (said_kinds bs at) ++ replicate (2 * (8 - count_at bs at)) 0)

  is_written : class_bytes (class_at bs at) ≡ written
  unfolding said_kinds written
  is_written =
      let n = length_tabulate (count_at bs at) (λ k. kind_at bs (at + 3 + 2 * k)) in
      ap (λ ws. ws ++ (length (said_kinds bs at) ∷ (flat_map kind_bytes (said_kinds bs at) ++ replicate (2 * (8 - length (said_kinds bs at))) 0)))
      (word_of (byte_at bs at) (byte_at bs (at + 1)) (bytes (at + 1) (omega arith)))
      ∙ ap (λ m. byte_at bs at ∷ byte_at bs (at + 1) ∷ m ∷ (flat_map kind_bytes (said_kinds bs at) ++ replicate (2 * (8 - m)) 0)) n

  pub class_here : ((k : ℕ) → count_at bs at ≤ k → k < 8 → code_at bs at k ≡ 0) → slice bs at 19 ≡ class_bytes (class_at bs at)
  unfolding written
  class_here h =
      let s : at + 1 + 1 ≡ at + 2 = omega arith in
      slice_append bs at 3 16
      ∙ ap (λ ys. ys ++ slice bs (at + 3) 16) (three bs at 0 (omega arith))
      ∙ ap (λ k. byte_at bs at ∷ byte_at bs (at + 1) ∷ byte_at bs k ∷ slice bs (at + 3) 16) s
      ∙ ap (λ ys. byte_at bs at ∷ byte_at bs (at + 1) ∷ count_at bs at ∷ ys) (sixteen h)
      ∙ sym is_written

  kinds_length : length (flat_map kind_bytes (said_kinds bs at)) ≡ 2 * count_at bs at
  unfolding said_kinds
  kinds_length =
      length_joined kind_bytes 2 Int (said_kinds bs at) (λ j l. refl)
      ∙ ap (λ m. 2 * m) (length_tabulate (count_at bs at) (λ k. kind_at bs (at + 3 + 2 * k)))

  past_kinds : (j : ℕ) → 2 * count_at bs at ≤ j → byte_at (flat_map kind_bytes (said_kinds bs at) ++ replicate (2 * (8 - count_at bs at)) 0) j ≡ 0
  past_kinds j l =
      get_or-append_right (flat_map kind_bytes (said_kinds bs at)) (replicate (2 * (8 - count_at bs at)) 0) (2 * count_at bs at) j 0 kinds_length l
      ∙ ⊎_elim
      (λ (m : j - 2 * count_at bs at < 2 * (8 - count_at bs at)). get_or-replicate (2 * (8 - count_at bs at)) (j - 2 * count_at bs at) 0 0 m)
      (λ (m : 2 * (8 - count_at bs at) ≤ j - 2 * count_at bs at). get_or_past (replicate (2 * (8 - count_at bs at)) 0) (j - 2 * count_at bs at) 0 (omega (arith, length-replicate {A = ℕ} (2 * (8 - count_at bs at)) 0)))
      (cases_lt (j - 2 * count_at bs at) (2 * (8 - count_at bs at)))

  -- a byte past the header of the class
  late_byte : slice bs at 19 ≡ class_bytes (class_at bs at) → (j : ℕ) → j < 16 → byte_at bs (at + 3 + j) ≡ byte_at (flat_map kind_bytes (said_kinds bs at) ++ replicate (2 * (8 - count_at bs at)) 0) j
  unfolding written
  late_byte h j l =
      let s : at + 3 + j ≡ at + suc (suc (suc j)) = omega arith in
      ap (byte_at bs) s ∙ byte_said bs written at 19 (suc (suc (suc j))) (omega arith) (h ∙ is_written)

  pub unused_zero : slice bs at 19 ≡ class_bytes (class_at bs at) → (k : ℕ) → count_at bs at ≤ k → k < 8 → code_at bs at k ≡ 0
  unused_zero h k lo hi =
      let a : byte_at bs (at + 3 + 2 * k) ≡ 0 = late_byte h (2 * k) (omega arith) ∙ past_kinds (2 * k) (omega arith) in
      let s : at + 3 + 2 * k + 1 ≡ at + 3 + (2 * k + 1) = omega arith in
      let b : byte_at bs (at + 3 + 2 * k + 1) ≡ 0 = ap (byte_at bs) s ∙ late_byte h (2 * k + 1) (omega arith) ∙ past_kinds (2 * k + 1) (omega arith) in
      omega (arith, a, b)
