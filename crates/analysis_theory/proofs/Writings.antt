-- Bytes put together and taken apart, and one writing after another: how long they are together, and what a buffer holds
-- after both.
use Rattle.std.proofs.Common.{◌≡◌, ℕ, ◌+◌, ◌-◌, ◌<◌, ◌≤◌, true, false, List, [], ◌++◌, length, take, drop, Some, None, sym, refl, ap, ◌∙◌, subst, ⊎_elim, append_assoc, append-nil, arith, length-append, length-drop, get_or-drop, le-leb}
use borrow.Rule.Slice.PartMut.{put_mid}
use Rattle.std.proofs.lemmas.List.{get_or_append_left, get_or-append_right, take_rest, take_at, drop_at, drop_all, drop-drop}
use borrow.Author.Tests.{lt-leb}
use Rattle.std.proofs.lemmas.Bool.{and_right, cases_lt}
use Rattle.std.proofs.lemmas.Bool.Decides.{nat_tests}
use Rattle.format.specs.Bytes.{AllBytes}
use Rattle.analysis_theory.specs.Methods.{size_of, fits, written_in, written_length}

pub bytes_append : (xs ys : List ℕ) → AllBytes xs → AllBytes ys → AllBytes (xs ++ ys)
bytes_append xs ys h k i l =
    ⊎_elim
    (λ (a : i < length xs). subst (λ (n : ℕ). n < 256) (sym (get_or_append_left xs ys 0 i a)) (h i a))
    (λ (a : length xs ≤ i).
    subst (λ (n : ℕ). n < 256) (sym (get_or-append_right xs ys (length xs) i 0 refl a))
    (k (i - length xs) (let e = length-append xs ys in omega arith)))
    (cases_lt i (length xs))

pub bytes_drop : (n : ℕ) (xs : List ℕ) → AllBytes xs → AllBytes (drop n xs)
bytes_drop n xs h i l =
    subst (λ (k : ℕ). k < 256) (sym (get_or-drop n xs i 0)) (h (n + i) (let e = length-drop n xs in omega arith))

-- where there is a size, it is the length, and a field can hold it
pub size_some : (bs : List ℕ) (n : ℕ) → Some n ≡ size_of bs → (n ≡ length bs) × (length bs ≤ 65533)
size_some bs n e = (grind (arith, nat_tests), grind (arith, nat_tests))

-- where there is none, no field can hold it
pub size_none : (bs : List ℕ) → None ≡ size_of bs → 65533 < length bs
size_none bs e = grind (arith, nat_tests)

pub some_size : (bs : List ℕ) → length bs ≤ 65533 → Some (length bs) ≡ size_of bs
some_size bs l = rw (le-leb (length bs) 65533 l) refl

pub none_size : (bs : List ℕ) → 65533 < length bs → None ≡ size_of bs
none_size bs l = rw (lt-leb (length bs) 65533 l) refl

module _ (xs ys : List ℕ) where
  pub none_left : None ≡ size_of xs → None ≡ size_of (xs ++ ys)
  none_left e = none_size (xs ++ ys) (simp length-append (omega (arith, size_none xs e)))

  pub none_right : None ≡ size_of ys → None ≡ size_of (xs ++ ys)
  none_right e = none_size (xs ++ ys) (simp length-append (omega (arith, size_none ys e)))

  pub none_both : (m n : ℕ) → Some m ≡ size_of xs → Some n ≡ size_of ys → 65533 < m + n → None ≡ size_of (xs ++ ys)
  none_both m n e f l = none_size (xs ++ ys) (simp length-append (omega (arith, l, (size_some xs m e).0, (size_some ys n f).0)))

  pub some_both : (m n : ℕ) → Some m ≡ size_of xs → Some n ≡ size_of ys → m + n ≤ 65533 → Some (m + n) ≡ size_of (xs ++ ys)
  some_both m n e f l =
      let s : m + n ≡ length (xs ++ ys) = simp length-append (omega (arith, (size_some xs m e).0, (size_some ys n f).0)) in
      ap Some s ∙ some_size (xs ++ ys) (omega (arith, s, l))

pub some_written : (bs out : List ℕ) (n : ℕ) → fits bs out ≡ true → Some n ≡ written_length bs out → n ≡ length bs
some_written bs out n f e = grind arith

pub none_written : (bs out : List ℕ) → fits bs out ≡ true → None ≡ written_length bs out → ⊥
none_written bs out f e = grind arith

pub written_held : (bs out held : List ℕ) → fits bs out ≡ true → held ≡ written_in bs out → held ≡ bs ++ drop (length bs) out
written_held bs out held f e = rw f at e

pub no_room : (bs out : List ℕ) → length out < length bs → fits bs out ≡ false
no_room bs out l = and_right _ _ (lt-leb (length bs) (length out) l)

pub has_room : (bs out : List ℕ) → length bs ≤ 65533 → length bs ≤ length out → fits bs out ≡ true
has_room bs out l r = rw (le-leb (length bs) 65533 l, le-leb (length bs) (length out) r) refl

-- a writing that no field can hold, or that the buffer is too short for, is not written
pub record Unwritten (bs out : List ℕ) : Type 0 where
  pub length : None ≡ written_length bs out
  pub buffer : out ≡ written_in bs out

unfit : (bs out : List ℕ) → fits bs out ≡ false → Unwritten bs out
unfit bs out f = record { length = rw f refl; buffer = rw f refl }

pub size_unwritten : (bs out : List ℕ) → None ≡ size_of bs → Unwritten bs out
size_unwritten bs out e = unfit bs out (rw (lt-leb (length bs) 65533 (size_none bs e)) refl)

pub room_unwritten : (bs out : List ℕ) (n : ℕ) → Some n ≡ size_of bs → length out < n → Unwritten bs out
room_unwritten bs out n e l = unfit bs out (no_room bs out (let h = (size_some bs n e).0 in omega arith))

-- two writings, one behind the other, into a buffer with room for both
module _ (xs ys out : List ℕ) (size : ℕ) (sized : Some size ≡ size_of (xs ++ ys)) (room : size ≤ length out) where
  together : (length xs + length ys ≤ 65533) × (length xs + length ys ≤ length out)
  together =
      let s = size_some (xs ++ ys) size sized in
      let l = length-append xs ys in
      (omega arith, omega arith)

  both_fit : fits (xs ++ ys) out ≡ true
  both_fit =
      let t = together in
      let l = length-append xs ys in
      has_room (xs ++ ys) out (omega arith) (omega arith)

  left_fits : fits xs out ≡ true
  left_fits = let t = together in has_room xs out (omega arith) (omega arith)

  pub left_written : None ≡ written_length xs out → ⊥
  left_written = none_written xs out left_fits

  module _ (n : ℕ) (mid : List ℕ) (left : Some n ≡ written_length xs out) (held : mid ≡ written_in xs out) where
    front : n ≡ length xs
    front = some_written xs out n left_fits left

    mid_is : mid ≡ xs ++ drop (length xs) out
    mid_is = written_held xs out mid left_fits held

    -- the rest of the buffer is as it was
    rest_is : take (length mid - n) (drop n mid) ≡ drop (length xs) out
    rest_is = take_rest mid n ∙ ap (drop n) mid_is ∙ drop_at xs (drop (length xs) out) n (sym front)

    right_fits : fits ys (take (length mid - n) (drop n mid)) ≡ true
    right_fits =
        subst (λ (z : List ℕ). fits ys z ≡ true) (sym rest_is)
        (let t = together in let d = length-drop (length xs) out in has_room ys (drop (length xs) out) (omega arith) (omega arith))

    pub right_written : None ≡ written_length ys (take (length mid - n) (drop n mid)) → ⊥
    right_written = none_written ys _ right_fits

    pub both_length : (m : ℕ) → Some m ≡ written_length ys (take (length mid - n) (drop n mid)) → Some (n + m) ≡ written_length (xs ++ ys) out
    both_length m right =
        let back : m ≡ length ys = some_written ys _ m right_fits right in
        let sum : n + m ≡ length (xs ++ ys) = let l = length-append xs ys in let f = front in omega arith in
        rw both_fit (ap Some sum)

    pub both_buffer : (end : List ℕ) → end ≡ written_in ys (take (length mid - n) (drop n mid)) → put_mid n (length mid - n) mid end ≡ written_in (xs ++ ys) out
    both_buffer end right =
        let last : end ≡ ys ++ drop (length ys) (drop (length xs) out) =
        written_held ys _ end right_fits right ∙ ap (λ z. ys ++ drop (length ys) z) rest_is in
        let tail : drop (length ys) (drop (length xs) out) ≡ drop (length (xs ++ ys)) out =
        drop-drop (length ys) (length xs) out ∙ ap (λ k. drop k out) (sym (length-append xs ys)) in
        let none : drop (length mid - n) (drop n mid) ≡ [] =
        drop_all (length mid - n) (drop n mid) (let d = length-drop n mid in omega arith) in
        ap (λ z. take n mid ++ (end ++ z)) none
        ∙ ap (λ z. take n mid ++ z) (append-nil end)
        ∙ ap (λ z. take n z ++ end) mid_is
        ∙ ap (λ z. z ++ end) (take_at xs (drop (length xs) out) n (sym front))
        ∙ ap (λ z. xs ++ z) (last ∙ ap (λ z. ys ++ z) tail)
        ∙ sym (append_assoc xs ys (drop (length (xs ++ ys)) out))
        ∙ sym (written_held (xs ++ ys) out (written_in (xs ++ ys) out) both_fit refl)
