-- The tests of the head and of a table's size say what they should.
use Rattle.std.proofs.Common.{◌≡◌, ℕ, ◌*◌, ◌/◌, ◌%◌, ◌<◌, ◌≤◌, true, ◌&&◌, eqb, ltb, leb, List, [], ◌∷◌, length, sym, ap, ◌∙◌, ⊎_elim, mul-pos, mul-zero, arith}
use native.Mathlib.Nat.{div-add-mod, mul-div_cancel_left, mul-mod_right}
use Rattle.std.proofs.lemmas.Bool.{and_parts, and_from, leb-true, le-leb, ltb-true, lt-ltb, eqb-true, eq-eqb, cases_lt}
use Rattle.format.specs.Bytes.{byte_at, slice}
use Rattle.format.specs.Reading.{field_end, places_of, body_length, head_reads, sized}
use Rattle.format.specs.Stages.{FramePasses}
use Rattle.format.specs.Right.{HeadRight, Sized}
use Rattle.format.proofs.Slices.{slice_cons, length_slice, first_said}
use Rattle.format.proofs.Framing.{framed_parts}

pub whole_records : (w n : ℕ) → n % w ≡ 0 → n ≡ w * (n / w)
whole_records w n h = omega (arith, div-add-mod n w)

pub some_records : (w n : ℕ) → 0 < n → n ≡ w * (n / w) → 0 < n / w
some_records w n p h =
    ⊎_elim (λ (l : 0 < n / w). l) (λ (l : n / w ≤ 0). let z : n / w ≡ 0 = omega arith in absurd (omega (arith, ap (λ k. w * k) z, mul-zero w)))
    (cases_lt 0 (n / w))

pub sized_right : (w most n : ℕ) → sized w most n ≡ true → Sized w most n
sized_right w most n h =
    let a = and_parts (ltb 0 n) (eqb (n % w) 0 && leb (n / w) most) h in
    let b = and_parts (eqb (n % w) 0) (leb (n / w) most) a.1 in
    let size : n ≡ w * (n / w) = whole_records w n (eqb-true _ _ b.0) in
    record { count = n / w; size = size; some = some_records w n (ltb-true _ _ a.0) size; few = leb-true _ _ b.1 }

pub right_count : (w most n : ℕ) → 0 < w → (s : Sized w most n) → n / w ≡ s.count
right_count w most n p s = ap (λ k. k / w) s.size ∙ mul-div_cancel_left s.count p

pub right_sized : (w most n : ℕ) → 0 < w → Sized w most n → sized w most n ≡ true
right_sized w most n p s =
    let pos : 0 < w * s.count = mul-pos p s.some in
    let rem : n % w ≡ 0 = ap (λ k. k % w) s.size ∙ mul-mod_right w s.count in
    and_from (ltb 0 n) (eqb (n % w) 0 && leb (n / w) most) (lt-ltb 0 n (omega (arith, pos, s.size)))
    (and_from (eqb (n % w) 0) (leb (n / w) most) (eq-eqb _ _ rem) (le-leb _ _ (omega (arith, right_count w most n p s, s.few))))

-- the head's two bytes
two : (bs : List ℕ) → 5 ≤ length bs → slice bs 3 2 ≡ byte_at bs 3 ∷ byte_at bs 4 ∷ []
two bs h = slice_cons bs 3 1 (omega arith) ∙ ap (λ ys. byte_at bs 3 ∷ ys) (slice_cons bs 4 0 (omega arith))

pub head_right : (bs : List ℕ) → FramePasses bs → head_reads bs (places_of bs) ≡ true → HeadRight bs
head_right bs p h =
    let a = and_parts (eqb (places_of bs).classes 5) (eqb (byte_at bs 3) 1 && leb (byte_at bs 4) 16) h in
    let b = and_parts (eqb (byte_at bs 3) 1) (leb (byte_at bs 4) 16) a.1 in
    let five : (places_of bs).classes ≡ 5 = eqb-true _ _ a.0 in
    let fits : field_end bs 0 ≤ length bs = (framed_parts bs 1 0 p.first).within in
    record {
      here =
          ap (λ k. slice bs 3 (body_length 0 k)) five ∙ two bs (omega (arith, five, fits))
          ∙ ap (λ v. v ∷ byte_at bs 4 ∷ []) (eqb-true (byte_at bs 3) 1 b.0);
      shallow = leb-true _ _ b.1;
    }

pub right_head : (bs : List ℕ) → FramePasses bs → HeadRight bs → head_reads bs (places_of bs) ≡ true
right_head bs p r =
    let fits : field_end bs 0 ≤ length bs = (framed_parts bs 1 0 p.first).within in
    let n : ℕ = body_length 0 (places_of bs).classes in
    let len : n ≡ 2 = sym (length_slice bs 3 n (omega (arith, fits))) ∙ ap length r.here in
    let v : byte_at bs 3 ≡ 1 = first_said bs _ 3 n (omega (arith, len)) r.here in
    and_from (eqb (places_of bs).classes 5) (eqb (byte_at bs 3) 1 && leb (byte_at bs 4) 16) (eq-eqb _ _ (omega (arith, len)))
    (and_from (eqb (byte_at bs 3) 1) (leb (byte_at bs 4) 16) (eq-eqb _ _ v) (le-leb _ _ r.shallow))
