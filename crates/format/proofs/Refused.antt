-- A refusal names the first thing that is wrong.
use Rattle.std.proofs.Common.{◌≡◌, ℕ, ◌<◌, ◌≤◌, Bool, true, false, eqb, ◌⊎◌, List, length, Some, None, Ok, Err, Decides, Option, Result, refl, subst, inl, inr, ⊎_elim, arith}
use Rattle.std.proofs.lemmas.Bool.{eqb-true, eqb-false, both_ways}
use Rattle.std.proofs.lemmas.Bool.Decides.{not_from_Decides}
use Rattle.format.specs.declared.layout.Layout.{Layout}
use Rattle.format.specs.declared.refusal.ReadError.{ReadError}
use Rattle.format.specs.declared.refusal.ReadError.TheVariants.{Framing, Head, Class, Slot, Code}
use Rattle.format.specs.Bytes.{AllBytes, first_failing}
use Rattle.format.specs.Reading.{guard, unless, framed_at, places_of, read_frame, head_reads, read_table, classes_sized, slots_sized, code_sized, contents, reading}
use Rattle.format.specs.Stages.{layout_in, FramePasses, TablePasses}
use Rattle.format.specs.Right.{FieldAt, FieldsUpTo, none, more, FrameRight, ClassRight, SlotRight, CodeRight, ClassesSize, SlotsSize, CodeSize}
use Rattle.format.specs.Meaning.{RecordWrong, FirstWrong}
use Rattle.format.proofs.Ranges.{First, first_none_at, first_some_at}
use Rattle.format.proofs.Framing.{framed_parts, framed_stands, stands_framed, frame_right}
use Rattle.format.proofs.Sizes.{head_right, right_head}
use Rattle.format.proofs.Rightness.{decides_sized, class_at, slot_at, instruction_at_decides, classes_decide, slots_decide}

-- a guard that refuses failed, or what follows it refuses
guard_err : {A : Type 0} (b : Bool) (e x : ReadError) (r : Result A ReadError) → guard b e r ≡ Err x → ((b ≡ false) × (e ≡ x)) ⊎ ((b ≡ true) × (r ≡ Err x))
guard_err true e x r h = inr (refl, h)
guard_err false e x r h = inl (refl, (let s : e ≡ x = cc in s))

-- a table that refuses has a wrong size, or a first record that fails, or what follows it refuses
table_err : {A : Type 0} (right : Bool) (n : ℕ) (test : ℕ → Bool) (error : ℕ → ReadError) (x : ReadError) (rest : Result A ReadError) → read_table right n test error rest ≡ Err x → ((right ≡ false) × (error 0 ≡ x)) ⊎ (((right ≡ true) × ((i : ℕ) × First test 0 n i × (error i ≡ x))) ⊎ (TablePasses right n test × (rest ≡ Err x)))
table_err right n test error x rest h =
    ⊎_elim
    (λ (a : (right ≡ false) × (error 0 ≡ x)). inl a)
    (λ (a : (right ≡ true) × (unless (first_failing test 0 n) error rest ≡ Err x)). inr (step (first_failing test 0 n) refl a.0 a.1))
    (guard_err right (error 0) x (unless (first_failing test 0 n) error rest) h)
  where
    step : (o : Option ℕ) → first_failing test 0 n ≡ o → right ≡ true → unless o error rest ≡ Err x → ((right ≡ true) × ((i : ℕ) × First test 0 n i × (error i ≡ x))) ⊎ (TablePasses right n test × (rest ≡ Err x))
    step None e s r = inr (record { are_sized = s; each = λ i l. first_none_at test 0 n e i (omega arith) (omega arith) }, r)
    step (Some i) e s r = inl (s, (i, first_some_at test 0 n i e, (let z : error i ≡ x = cc in z)))

-- what was found at a table's first fault, in words of the rules
record_wrong : (test : Bool) (size : Type 0) (n : ℕ) (reads : ℕ → Bool) (right : ℕ → Type 0) → Decides test size → (size → (i : ℕ) → i < n → Decides (reads i) (right i)) → test ≡ true → (i : ℕ) → First reads 0 n i → RecordWrong size n right i
record_wrong test size n reads right s each t i f =
    let z : size = s.0 t in
    let l : i < n = omega (arith, f.below) in
    inr (z, l, (λ j m. (each z j (omega (arith, l))).0 (f.before j (omega arith) m)), not_from_Decides (reads i) (each z i l) f.fails)

size_wrong : (test : Bool) (size : Type 0) (n : ℕ) (right : ℕ → Type 0) → Decides test size → test ≡ false → RecordWrong size n right 0
size_wrong test size n right s t = inl (refl, not_from_Decides test s t)

-- the next field does not stand at a place
not_there : (bs : List ℕ) (tag at : ℕ) → framed_at bs tag at ≡ false → (next : ℕ) → FieldAt bs tag at next → ⊥
not_there bs tag at h next f = both_ways (framed_at bs tag at) h (stands_framed bs tag at next f).0

-- one field after another: the next is refused, or stands
field_err : {A : Type 0} (bs : List ℕ) (tag at : ℕ) (x : ReadError) (rest : Result A ReadError) → AllBytes bs → tag ≤ 4 → FieldsUpTo bs tag at → guard (framed_at bs tag at) (Framing at) rest ≡ Err x → FirstWrong bs x ⊎ ((framed_at bs tag at ≡ true) × (rest ≡ Err x))
field_err bs tag at x rest bytes l up h =
    ⊎_elim
    (λ (a : (framed_at bs tag at ≡ false) × (Framing at ≡ x)).
    inl (subst (λ (e : ReadError). FirstWrong bs e) a.1 (inl (tag, l, up, not_there bs tag at a.0))))
    (λ (a : (framed_at bs tag at ≡ true) × (rest ≡ Err x)). inr a)
    (guard_err (framed_at bs tag at) (Framing at) x rest h)

and_then : {P Q R : Type 0} → P ⊎ Q → (Q → P ⊎ R) → P ⊎ R
and_then (inl p) f = inl p
and_then (inr q) f = f q

module _ (bs : List ℕ) (bytes : AllBytes bs) where
  up_to_2 : framed_at bs 1 0 ≡ true → FieldsUpTo bs 2 (places_of bs).classes
  up_to_2 h = more none (framed_stands bs 1 0 bytes h)

  up_to_3 : framed_at bs 1 0 ≡ true → framed_at bs 2 (places_of bs).classes ≡ true → FieldsUpTo bs 3 (places_of bs).slots
  up_to_3 h i = more (up_to_2 h) (framed_stands bs 2 (places_of bs).classes bytes i)

  up_to_4 : framed_at bs 1 0 ≡ true → framed_at bs 2 (places_of bs).classes ≡ true → framed_at bs 3 (places_of bs).slots ≡ true → FieldsUpTo bs 4 (places_of bs).code
  up_to_4 h i j = more (up_to_3 h i) (framed_stands bs 3 (places_of bs).slots bytes j)

  left_over : {A : Type 0} (x : ReadError) (rest : Result A ReadError) → framed_at bs 4 (places_of bs).code ≡ true → FieldsUpTo bs 4 (places_of bs).code → guard (eqb (places_of bs).end (length bs)) (Framing (places_of bs).end) rest ≡ Err x → FirstWrong bs x ⊎ (((places_of bs).end ≡ length bs) × (rest ≡ Err x))
  left_over x rest h up g =
      ⊎_elim
      (λ (a : (eqb (places_of bs).end (length bs) ≡ false) × (Framing (places_of bs).end ≡ x)).
      let ne = eqb-false (places_of bs).end (length bs) a.0 in
      let le = (framed_parts bs 4 (places_of bs).code h).within in
      inl (subst (λ (e : ReadError). FirstWrong bs e) a.1
      (inr (more up (framed_stands bs 4 (places_of bs).code bytes h), omega (arith, ne, le)))))
      (λ (a : (eqb (places_of bs).end (length bs) ≡ true) × (rest ≡ Err x)). inr (eqb-true _ _ a.0, a.1))
      (guard_err (eqb (places_of bs).end (length bs)) (Framing (places_of bs).end) x rest g)

  -- the frame refuses, or all four fields stand and what follows refuses
  frame_err : {A : Type 0} (x : ReadError) (rest : Result A ReadError) → read_frame bs rest ≡ Err x → FirstWrong bs x ⊎ (FramePasses bs × (rest ≡ Err x))
  frame_err x rest h =
      and_then (field_err bs 1 0 x _ bytes (omega arith) none h) (λ a.
      and_then (field_err bs 2 (places_of bs).classes x _ bytes (omega arith) (up_to_2 a.0) a.1) (λ b.
      and_then (field_err bs 3 (places_of bs).slots x _ bytes (omega arith) (up_to_3 a.0 b.0) b.1) (λ c.
      and_then (field_err bs 4 (places_of bs).code x _ bytes (omega arith) (up_to_4 a.0 b.0 c.0) c.1) (λ d.
      and_then (left_over x rest d.0 (up_to_4 a.0 b.0 c.0) d.1) (λ e.
      inr (record { first = a.0; second = b.0; third = c.0; fourth = d.0; whole = e.0 }, e.1))))))

  module _ (f : FramePasses bs) where
    framed : FrameRight bs
    framed = frame_right bs bytes f

    head_err : {A : Type 0} (x : ReadError) (rest : Result A ReadError) → guard (head_reads bs (places_of bs)) Head rest ≡ Err x → FirstWrong bs x ⊎ ((head_reads bs (places_of bs) ≡ true) × (rest ≡ Err x))
    head_err x rest h =
        ⊎_elim
        (λ (a : (head_reads bs (places_of bs) ≡ false) × (Head ≡ x)).
        inl (subst (λ (e : ReadError). FirstWrong bs e) a.1
        (framed, λ r. both_ways (head_reads bs (places_of bs)) a.0 (right_head bs f r))))
        (λ (a : (head_reads bs (places_of bs) ≡ true) × (rest ≡ Err x)). inr a)
        (guard_err (head_reads bs (places_of bs)) Head x rest h)

    -- a table refuses, and what makes that the first fault is at hand, or the table passes
    stage_err : {A : Type 0} (test : Bool) (size : Type 0) (n : ℕ) (reads : ℕ → Bool) (right : ℕ → Type 0) (error : ℕ → ReadError) (x : ReadError) (rest : Result A ReadError) → Decides test size → (size → (i : ℕ) → i < n → Decides (reads i) (right i)) → ((i : ℕ) → RecordWrong size n right i → FirstWrong bs (error i)) → read_table test n reads error rest ≡ Err x → FirstWrong bs x ⊎ (TablePasses test n reads × (rest ≡ Err x))
    stage_err test size n reads right error x rest s each wrong h =
        ⊎_elim
        (λ (a : (test ≡ false) × (error 0 ≡ x)). inl (subst (λ (e : ReadError). FirstWrong bs e) a.1 (wrong 0 (size_wrong test size n right s a.0))))
        (⊎_elim
        (λ (a : (test ≡ true) × ((i : ℕ) × First reads 0 n i × (error i ≡ x))).
        inl (subst (λ (e : ReadError). FirstWrong bs e) a.1.2 (wrong a.1.0 (record_wrong test size n reads right s each a.0 a.1.0 a.1.1))))
        (λ (a : TablePasses test n reads × (rest ≡ Err x)). inr a))
        (table_err test n reads error x rest h)

  pub refused_first : (x : ReadError) → reading bs ≡ Err x → FirstWrong bs x
  refused_first x h = only (
      and_then (frame_err x (contents bs (places_of bs)) h) (λ a.
      let f = framed a.0 in
      and_then (head_err a.0 x _ a.1) (λ b.
      let g = head_right bs a.0 b.0 in
      and_then (stage_err a.0 (classes_sized (places_of bs)) (ClassesSize bs) _ _ (ClassRight bs (layout_in bs)) Class x _ (decides_sized 19 256 _ (omega arith)) (class_at bs bytes a.0) (λ i w. (f, g, w)) b.1) (λ c.
      let k = (classes_decide bs bytes a.0).0 c.0 in
      and_then (stage_err a.0 (slots_sized (places_of bs)) (SlotsSize bs) _ _ (SlotRight bs (layout_in bs)) Slot x _ (decides_sized 2 32 _ (omega arith)) (λ _. slot_at bs bytes a.0 k.size_right) (λ i w. (f, g, k, w)) c.1) (λ d.
      let m = (slots_decide bs bytes a.0 k.size_right).0 d.0 in
      and_then (stage_err a.0 (code_sized (places_of bs)) (CodeSize bs) _ _ (CodeRight bs (layout_in bs)) Code x _ (decides_sized 3 1024 _ (omega arith)) (λ _. instruction_at_decides bs bytes a.0) (λ i w. (f, g, k, m, w)) d.1) (λ e.
      ended e.1))))))
    where
      ended : ◌≡◌ {A = Result Layout ReadError} (Ok (layout_in bs)) (Err x) → FirstWrong bs x ⊎ ⊥
      ended e = absurd (cc)

      only : FirstWrong bs x ⊎ ⊥ → FirstWrong bs x
      only (inl w) = w
      only (inr w) = absurd w
