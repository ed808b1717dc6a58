-- A field stands whole at a place exactly if the framing test passes there.
use Rattle.std.proofs.Common.{◌≡◌, ℕ, suc, ◌+◌, ◌/◌, ◌%◌, ◌≤◌, true, ◌&&◌, eqb, leb, List, [], ◌∷◌, ◌++◌, length, drop, sym, ap, ◌∙◌, arith}
use Rattle.std.proofs.lemmas.Bool.{and_parts, and_from, leb-true, le-leb, eqb-true, eq-eqb}
use Rattle.format.specs.Bytes.{AllBytes, byte_at, word_at, word, slice}
use Rattle.format.specs.Encoding.{field}
use Rattle.format.specs.Reading.{framed_at, field_end, places_of, body_length}
use Rattle.format.specs.Stages.{FramePasses}
use Rattle.format.specs.Right.{FieldAt, FrameRight}
use Rattle.format.proofs.Slices.{slice_cons, length_slice, slice_within, byte_said, first_said}
use Rattle.format.proofs.Words.{word_of, number_of}

pub record FramedParts (bs : List ℕ) (tag at : ℕ) : Type 0 where
  pub header : at + 3 ≤ length bs
  pub tagged : byte_at bs at ≡ tag
  pub within : field_end bs at ≤ length bs

pub framed_parts : (bs : List ℕ) (tag at : ℕ) → framed_at bs tag at ≡ true → FramedParts bs tag at
framed_parts bs tag at h =
    let a = and_parts (leb (at + 3) (length bs)) (eqb (byte_at bs at) tag && leb (field_end bs at) (length bs)) h in
    let b = and_parts (eqb (byte_at bs at) tag) (leb (field_end bs at) (length bs)) a.1 in
    record { header = leb-true _ _ a.0; tagged = eqb-true _ _ b.0; within = leb-true _ _ b.1 }

-- a field's header, byte by byte
pub three : (bs : List ℕ) (at m : ℕ) → at + 3 ≤ length bs → slice bs at (3 + m) ≡ byte_at bs at ∷ byte_at bs (at + 1) ∷ byte_at bs (at + 1 + 1) ∷ slice bs (at + 3) m
three bs at m h =
    let e : 3 + m ≡ suc (suc (suc m)) = omega arith in
    let a : at + 1 + 1 + 1 ≡ at + 3 = omega arith in
    ap (slice bs at) e
    ∙ slice_cons bs at (suc (suc m)) (omega arith)
    ∙ ap (λ ys. byte_at bs at ∷ ys) (slice_cons bs (at + 1) (suc m) (omega arith))
    ∙ ap (λ ys. byte_at bs at ∷ byte_at bs (at + 1) ∷ ys) (slice_cons bs (at + 1 + 1) m (omega arith))
    ∙ ap (λ k. byte_at bs at ∷ byte_at bs (at + 1) ∷ byte_at bs (at + 1 + 1) ∷ slice bs k m) a

pub framed_stands : (bs : List ℕ) (tag at : ℕ) → AllBytes bs → framed_at bs tag at ≡ true → FieldAt bs tag at (field_end bs at)
framed_stands bs tag at bytes h =
    let p = framed_parts bs tag at h in
    let n : ℕ = word_at bs (at + 1) in
    let body : List ℕ = slice bs (at + 3) n in
    let size : length body ≡ n = length_slice bs (at + 3) n p.within in
    let two : word (length body) ≡ byte_at bs (at + 1) ∷ byte_at bs (at + 1 + 1) ∷ [] = ap word size ∙ word_of (byte_at bs (at + 1)) (byte_at bs (at + 1 + 1)) (bytes (at + 1 + 1) (omega (arith, p.header))) in
    record {
      body = body;
      ends = ap (λ k. at + 3 + k) (sym size);
      here =
          ap (λ k. slice bs at (3 + k)) size ∙ three bs at n p.header
          ∙ ap (λ t. t ∷ byte_at bs (at + 1) ∷ byte_at bs (at + 1 + 1) ∷ body) p.tagged
          ∙ ap (λ ws. tag ∷ (ws ++ body)) (sym two);
    }

pub stands_framed : (bs : List ℕ) (tag at next : ℕ) → FieldAt bs tag at next → (framed_at bs tag at ≡ true) × (field_end bs at ≡ next)
stands_framed bs tag at next f =
    let n : ℕ = length f.body in
    let len : length (field tag f.body) ≡ 3 + n = omega arith in
    let fits : at + (3 + n) ≤ length bs = slice_within bs at (3 + n) (omega arith) (ap length f.here ∙ len) in
    let t : byte_at bs at ≡ tag = first_said bs (field tag f.body) at (3 + n) (omega arith) f.here in
    let hi : byte_at bs (at + 1) ≡ n / 256 = byte_said bs (field tag f.body) at (3 + n) 1 (omega arith) f.here in
    let s : at + 2 ≡ at + 1 + 1 = omega arith in
    let lo : byte_at bs (at + 1 + 1) ≡ n % 256 = ap (byte_at bs) (sym s) ∙ byte_said bs (field tag f.body) at (3 + n) 2 (omega arith) f.here in
    let w : word_at bs (at + 1) ≡ n = omega (arith, hi, lo, number_of n) in (
      and_from (leb (at + 3) (length bs)) (eqb (byte_at bs at) tag && leb (field_end bs at) (length bs)) (le-leb _ _ (omega (arith, fits)))
          (and_from (eqb (byte_at bs at) tag) (leb (field_end bs at) (length bs)) (eq-eqb _ _ t) (le-leb _ _ (omega (arith, fits, w)))),
      omega (arith, w, f.ends),
    )

pub frame_right : (bs : List ℕ) → AllBytes bs → FramePasses bs → FrameRight bs
frame_right bs bytes p =
    record {
      head = framed_stands bs 1 0 bytes p.first;
      classes = framed_stands bs 2 (places_of bs).classes bytes p.second;
      slots = framed_stands bs 3 (places_of bs).slots bytes p.third;
      code = framed_stands bs 4 (places_of bs).code bytes p.fourth;
      whole = p.whole;
    }

pub right_frame : (bs : List ℕ) → FrameRight bs → FramePasses bs
right_frame bs r =
    record {
      first = (stands_framed bs 1 0 _ r.head).0;
      second = (stands_framed bs 2 (places_of bs).classes _ r.classes).0;
      third = (stands_framed bs 3 (places_of bs).slots _ r.slots).0;
      fourth = (stands_framed bs 4 (places_of bs).code _ r.code).0;
      whole = r.whole;
    }

-- the contents of a field that stands at a place
pub field_body : (bs : List ℕ) (tag at next : ℕ) (f : FieldAt bs tag at next) → slice bs (at + 3) (body_length at next) ≡ f.body
field_body bs tag at next f =
    let n : ℕ = length f.body in
    let e : body_length at next ≡ n = omega (arith, f.ends) in
    let p = framed_parts bs tag at (stands_framed bs tag at next f).0 in
    let q = sym (three bs at n p.header) ∙ f.here in
    ap (slice bs (at + 3)) e ∙ ap (drop 3) q
