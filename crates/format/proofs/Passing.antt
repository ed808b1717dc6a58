-- Bytes are read exactly if every test passes.
use Rattle.std.proofs.Common.{◌≡◌, ℕ, Bool, eqb, List, length, get_or, Ok, Err, Result, sym, ap, ◌∙◌, arith}
use Rattle.std.proofs.lemmas.Bool.{eqb-true, eq-eqb}
use Rattle.format.specs.declared.layout.Frame.{Frame}
use Rattle.format.specs.declared.layout.Layout.{Layout}
use Rattle.format.specs.declared.refusal.ReadError.{ReadError}
use Rattle.format.specs.declared.refusal.ReadError.TheVariants.{Head, Class, Slot, Code}
use Rattle.format.specs.Bytes.{first_failing}
use Rattle.format.specs.Reading.{unless, framed_at, places_of, read_frame, head_reads, read_table, read_classes, read_slots, read_code, contents, reading, spread, layout_numbers}
use Rattle.format.specs.Stages.{layout_in, FramePasses, TablePasses, Passes}
use Rattle.format.proofs.Ranges.{first_none, first_none_at}
use Rattle.format.proofs.Results.{guard_ok, guard_true, unless_ok, unless_none}

frame_ok : {A : Type 0} (bs : List ℕ) (rest : Result A ReadError) (x : A) → read_frame bs rest ≡ Ok x → FramePasses bs × (rest ≡ Ok x)
frame_ok bs rest x h =
    let a = guard_ok (framed_at bs 1 0) _ _ x h in
    let b = guard_ok (framed_at bs 2 (places_of bs).classes) _ _ x a.1 in
    let c = guard_ok (framed_at bs 3 (places_of bs).slots) _ _ x b.1 in
    let d = guard_ok (framed_at bs 4 (places_of bs).code) _ _ x c.1 in
    let e = guard_ok (eqb (places_of bs).end (length bs)) _ _ x d.1 in
    (record { first = a.0; second = b.0; third = c.0; fourth = d.0; whole = eqb-true _ _ e.0 }, e.1)

table_ok : {A : Type 0} (right : Bool) (n : ℕ) (test : ℕ → Bool) (error : ℕ → ReadError) (rest : Result A ReadError) (x : A) → read_table right n test error rest ≡ Ok x → TablePasses right n test × (rest ≡ Ok x)
table_ok right n test error rest x h =
    let a = guard_ok right (error 0) (unless (first_failing test 0 n) error rest) x h in
    let b = unless_ok (first_failing test 0 n) error rest x a.1 in
    (record { are_sized = a.0; each = λ i l. first_none_at test 0 n b.0 i (omega arith) (omega arith) }, b.1)

is_ok : {A : Type 0} (x y : A) → ◌≡◌ {A = Result A ReadError} (Ok x) (Ok y) → x ≡ y
is_ok x y h = cc

pub reading_passes : (bs : List ℕ) (l : Layout) → reading bs ≡ Ok l → Passes bs × (layout_in bs ≡ l)
reading_passes bs l h =
    let a = frame_ok bs (contents bs (places_of bs)) l h in
    let b = guard_ok (head_reads bs (places_of bs)) Head (read_classes bs (places_of bs) (read_slots bs (places_of bs) (read_code bs (places_of bs) (Ok (layout_in bs))))) l a.1 in
    let c = table_ok _ _ _ Class (read_slots bs (places_of bs) (read_code bs (places_of bs) (Ok (layout_in bs)))) l b.1 in
    let d = table_ok _ _ _ Slot (read_code bs (places_of bs) (Ok (layout_in bs))) l c.1 in
    let e = table_ok _ _ _ Code (Ok (layout_in bs)) l d.1 in
    (record { framed = a.0; head = b.0; classes = c.0; slots = d.0; code = e.0 }, is_ok (layout_in bs) l e.1)

frame_passes : {A : Type 0} (bs : List ℕ) (rest : Result A ReadError) → FramePasses bs → read_frame bs rest ≡ rest
frame_passes bs rest p =
    guard_true _ _ _ p.first ∙ guard_true _ _ _ p.second ∙ guard_true _ _ _ p.third ∙ guard_true _ _ _ p.fourth
    ∙ guard_true _ _ _ (eq-eqb _ _ p.whole)

table_passes : {A : Type 0} (right : Bool) (n : ℕ) (test : ℕ → Bool) (error : ℕ → ReadError) (rest : Result A ReadError) → TablePasses right n test → read_table right n test error rest ≡ rest
table_passes right n test error rest p =
    guard_true _ _ _ p.are_sized ∙ unless_none _ _ _ (first_none test 0 n (λ k _ l. p.each k (omega arith)))

pub passes_reading : (bs : List ℕ) → Passes bs → reading bs ≡ Ok (layout_in bs)
passes_reading bs p =
    frame_passes bs _ p.framed ∙ guard_true _ _ _ p.head ∙ table_passes _ _ _ Class _ p.classes
    ∙ table_passes _ _ _ Slot _ p.slots ∙ table_passes _ _ _ Code _ p.code

gathered : List ℕ → Layout
gathered ns =
    record {
      depth = get_or ns 0 0;
      classes = record { start = get_or ns 1 0; count = get_or ns 2 0 };
      slots = record { start = get_or ns 3 0; count = get_or ns 4 0 };
      code = record { start = get_or ns 5 0; count = get_or ns 6 0 };
    }

spread_same : (k l : Layout) → spread k ≡ spread l → k ≡ l
unfolding gathered
spread_same k l e = ap gathered e

-- what is read once the frame is known is what is read
pub framed_reading : (bs : List ℕ) (f : Frame) → read_frame bs (Ok (places_of bs)) ≡ Ok f → contents bs f ≡ reading bs
framed_reading bs f h =
    let a = frame_ok bs (Ok (places_of bs)) f h in
    ap (contents bs) (sym (is_ok (places_of bs) f a.1)) ∙ sym (frame_passes bs (contents bs (places_of bs)) a.0)

-- the invariant of a read unit, as what it says
pub kept_reading : (bs : List ℕ) (l : Layout) → layout_numbers (reading bs) ≡ spread l → reading bs ≡ Ok l
kept_reading bs l h = step (reading bs) h
  where
    step : (r : Result Layout ReadError) → layout_numbers r ≡ spread l → r ≡ Ok l
    step (Ok k) e = ap Ok (spread_same k l e)
    step (Err f) e = let n : ◌≡◌ {A = ℕ} 0 7 = ap length e in absurd (omega arith)

pub kept_passes : (bs : List ℕ) (l : Layout) → layout_numbers (reading bs) ≡ spread l → Passes bs × (layout_in bs ≡ l)
kept_passes bs l h = reading_passes bs l (kept_reading bs l h)
