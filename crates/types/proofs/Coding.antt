-- Writing a stack, code by code.
use Rattle.std.proofs.Common.{◌≡◌, ℕ, ◌+◌, ◌*◌, ◌/◌, ◌%◌, ◌<◌, ◌≤◌, List, [], ◌∷◌, ◌++◌, length, get_or, take, drop, reverse, Some, sym, ap, ◌∙◌, append_assoc, arith}
use Rattle.std.proofs.lemmas.List.{take_at, drop_at, drop-drop, length-reverse, length-take-le}
use borrow.Rule.Slice.PartMut.{put_mid}
use Rattle.kinds.specs.declared.kind.Kind.{Kind}
use Rattle.kinds.specs.declared.kind.Kind.TheVariants.{Int}
use Rattle.kinds.specs.Codes.{kind_code}
use Rattle.format.specs.Bytes.{word}
use Rattle.analysis_theory.specs.Methods.{size_of}
use Rattle.analysis_theory.proofs.Writings.{Unwritten, some_size, room_unwritten}
use Rattle.types_theory.specs.Writing.{codes_up, stack_bytes}
use Rattle.types_theory.proofs.Codes.{length_codes}
use Rattle.types.proofs.Upward.{stack_more}

-- the depth and the first i codes stand in front of what the buffer held
abbrev pub Coded : List Kind → List ℕ → List ℕ → ℕ → Type 0
Coded kinds before after i = after ≡ (length kinds ∷ codes_up (reverse (take i kinds))) ++ drop (1 + 2 * i) before

-- what is put behind a front
put_behind : (front before bytes : List ℕ) (m k : ℕ) → length front ≡ m → put_mid m k (front ++ drop m before) bytes ≡ (front ++ bytes) ++ drop (m + k) before
put_behind front before bytes m k n =
    ap (λ xs. xs ++ (bytes ++ drop k (drop m (front ++ drop m before)))) (take_at front (drop m before) m n)
    ∙ ap (λ xs. front ++ (bytes ++ drop k xs)) (drop_at front (drop m before) m n)
    ∙ ap (λ xs. front ++ (bytes ++ xs)) (drop-drop k m before)
    ∙ sym (append_assoc front bytes (drop (m + k) before))

pub code_bytes : (n : ℕ) → n < 65536 → (n / 256 % 256) ∷ (n % 256) ∷ [] ≡ word n
code_bytes n l = ap (λ k. k ∷ (n % 256) ∷ []) (let e : n / 256 % 256 ≡ n / 256 = omega arith in e)

pub coded_more : (kinds : List Kind) (before out bytes : List ℕ) (i k : ℕ) → Coded kinds before out i → i < length kinds → k ≡ 2 → bytes ≡ word (kind_code (get_or kinds i Int)) → Coded kinds before (put_mid (1 + 2 * i) k out bytes) (i + 1)
coded_more kinds before out bytes i k h l e f =
    let front = length kinds ∷ codes_up (reverse (take i kinds)) in
    let size : length front ≡ 1 + 2 * i =
    omega (arith, length_codes (reverse (take i kinds)), length-reverse (take i kinds), length-take-le i kinds (omega arith)) in
    ap (λ xs. put_mid (1 + 2 * i) k xs bytes) h
    ∙ put_behind front before bytes (1 + 2 * i) k size
    ∙ ap (λ xs. (front ++ xs) ++ drop (1 + 2 * i + k) before) f
    ∙ ap (λ ks. (length kinds ∷ codes_up ks) ++ drop (1 + 2 * i + k) before) (sym (stack_more kinds i l))
    ∙ ap (λ n. (length kinds ∷ codes_up (reverse (take (i + 1) kinds))) ++ drop n before) (let q : 1 + 2 * i + k ≡ 1 + 2 * (i + 1) = omega arith in q)

-- a stack of that many kinds is written in so many bytes, which a field can hold
stack_size : (ks : List Kind) → length (stack_bytes ks) ≡ 1 + 2 * length ks
stack_size ks = omega (arith, length_codes ks)

pub sized : (ks : List Kind) (n : ℕ) → n ≡ length ks → n ≤ 16 → Some (1 + 2 * n) ≡ size_of (stack_bytes ks)
sized ks n e few =
    ap Some (let q : 1 + 2 * n ≡ length (stack_bytes ks) = omega (arith, stack_size ks) in q)
    ∙ some_size (stack_bytes ks) (omega (arith, stack_size ks))

pub coded_short : (ks kinds : List Kind) (out : List ℕ) → kinds ≡ reverse ks → length kinds ≤ 16 → length out < 1 + 2 * length kinds → Unwritten (stack_bytes ks) out
coded_short ks kinds out upward few l =
    room_unwritten (stack_bytes ks) out (1 + 2 * length kinds) (sized ks (length kinds) (ap length upward ∙ length-reverse ks) few) l
