-- Parts of a list of bytes: cut, joined again, and cut into records of one width.
use Rattle.std.proofs.Common.{◌≡◌, ℕ, zero, suc, ◌+◌, ◌-◌, ◌*◌, ◌<◌, ◌≤◌, List, [], ◌∷◌, ◌++◌, map, length, get_or, take, drop, replicate, sym, refl, ap, ◌∙◌, mul-zero, mul-one, mul-suc, mul-add, arith}
use Rattle.std.specs.List.{flat_map, range_with_len}
use Rattle.std.proofs.Math.Seq.{take-add}
use Rattle.std.proofs.lemmas.List.{drop_more, drop-drop, drop-take, length-take, length-take-le, length-drop, get_or-take, get_or-drop, take_all, take-take, drop_at, take_at, length-append, ext_get_or, length-replicate, get_or-replicate}
use Rattle.format.specs.Bytes.{byte_at, slice}

pub slice_cons : (bs : List ℕ) (at n : ℕ) → at < length bs → slice bs at (suc n) ≡ byte_at bs at ∷ slice bs (at + 1) n
slice_cons bs at n h = rw (drop_more bs at 0 h)

pub slice_append : (bs : List ℕ) (at m n : ℕ) → slice bs at (m + n) ≡ slice bs at m ++ slice bs (at + m) n
slice_append bs at m n = take-add m n (drop at bs) ∙ ap (λ ys. take m (drop at bs) ++ take n ys) (drop-drop m at bs)

pub length_slice : (bs : List ℕ) (at n : ℕ) → at + n ≤ length bs → length (slice bs at n) ≡ n
length_slice bs at n h = length-take-le n (drop at bs) (omega (arith, length-drop at bs))

-- a part that has its full length lies within
pub slice_within : (bs : List ℕ) (at n : ℕ) → 0 < n → length (slice bs at n) ≡ n → at + n ≤ length bs
slice_within bs at n p h = omega (arith, length-take n (drop at bs), length-drop at bs)

pub slice_at : (bs : List ℕ) (at n k : ℕ) → k < n → byte_at (slice bs at n) k ≡ byte_at bs (at + k)
slice_at bs at n k h = get_or-take n (drop at bs) k 0 h ∙ get_or-drop at bs k 0

-- what stands in a part whose bytes are known: at any place of it, and at its first
pub byte_said : (bs cs : List ℕ) (at n k : ℕ) → k < n → slice bs at n ≡ cs → byte_at bs (at + k) ≡ byte_at cs k
byte_said bs cs at n k l h = sym (slice_at bs at n k l) ∙ ap (λ xs. byte_at xs k) h

pub first_said : (bs cs : List ℕ) (at n : ℕ) → 0 < n → slice bs at n ≡ cs → byte_at bs at ≡ byte_at cs 0
first_said bs cs at n l h = let z : at ≡ at + 0 = omega arith in ap (byte_at bs) z ∙ byte_said bs cs at n 0 l h

pub slice_whole : (bs : List ℕ) → slice bs 0 (length bs) ≡ bs
slice_whole bs = take_all (length bs) bs (omega arith)

pub slice_slice : (bs : List ℕ) (at n i k : ℕ) → i + k ≤ n → slice (slice bs at n) i k ≡ slice bs (at + i) k
slice_slice bs at n i k h =
    let e : n ≡ i + (n - i) = omega arith in
    ap (λ m. take k (drop i (take m (drop at bs)))) e
    ∙ ap (take k) (drop-take i (n - i) (drop at bs))
    ∙ take-take k (n - i) (drop i (drop at bs)) (omega arith)
    ∙ ap (take k) (drop-drop i at bs)

-- a list of the numbers that a test of places gives
pub same_slice : (bs cs : List ℕ) (at n : ℕ) → at + n ≤ length bs → length cs ≡ n → ((k : ℕ) → k < n → byte_at bs (at + k) ≡ byte_at cs k) → slice bs at n ≡ cs
same_slice bs cs at n h e same =
    ext_get_or 0 (slice bs at n) cs (length_slice bs at n h ∙ sym e)
    (λ i l. let m : i < n = omega (arith, length_slice bs at n h) in slice_at bs at n i m ∙ same i m)

pub zeros : (bs : List ℕ) (at n : ℕ) → at + n ≤ length bs → ((k : ℕ) → k < n → byte_at bs (at + k) ≡ 0) → slice bs at n ≡ replicate n 0
zeros bs at n h same =
    same_slice bs (replicate n 0) at n h (length-replicate n 0) (λ k l. same k l ∙ sym (get_or-replicate n k 0 0 l))

-- records of one width, one after another
pub chunks : (bs : List ℕ) (w at : ℕ) (f : ℕ → List ℕ) (a n : ℕ) → ((i : ℕ) → a ≤ i → i < a + n → slice bs (at + w * i) w ≡ f i) → slice bs (at + w * a) (w * n) ≡ flat_map f (range_with_len a n)
chunks bs w at f a zero h = let e : w * 0 ≡ 0 = mul-zero w in rw e
chunks bs w at f a (suc n) h =
    let e : w * suc n ≡ w + w * n = omega (arith, mul-suc w n) in
    let r : at + w * (a + 1) ≡ at + w * a + w = omega (arith, mul-add w a 1, mul-one w) in
    ap (slice bs (at + w * a)) e
    ∙ slice_append bs (at + w * a) w (w * n)
    ∙ ap (λ ys. ys ++ slice bs (at + w * a + w) (w * n)) (h a (omega arith) (omega arith))
    ∙ ap (λ k. f a ++ slice bs k (w * n)) (sym r)
    ∙ ap (λ ys. f a ++ ys) (chunks bs w at f (a + 1) n (λ i lo hi. h i (omega arith) (omega arith)))

pub joined_map : {A B : Type 0} (g : A → List ℕ) (f : B → A) (xs : List B) → flat_map g (map f xs) ≡ flat_map (λ x. g (f x)) xs
joined_map g f [] = refl
joined_map g f (x ∷ xs) = ap (λ ys. g (f x) ++ ys) (joined_map g f xs)

-- record i of records of one width
pub chunk_at : {A : Type 0} (f : A → List ℕ) (w : ℕ) (d : A) (xs : List A) → ((j : ℕ) → j < length xs → length (f (get_or xs j d)) ≡ w) → (i : ℕ) → i < length xs → slice (flat_map f xs) (w * i) w ≡ f (get_or xs i d)
chunk_at f w d [] each i h = absurd (omega arith)
chunk_at f w d (x ∷ xs) each zero h =
    let e : w * 0 ≡ 0 = mul-zero w in
    rw e (take_at (f x) (flat_map f xs) w (each 0 (omega arith)))
chunk_at f w d (x ∷ xs) each (suc i) h =
    let e : w * suc i ≡ w + w * i = omega (arith, mul-suc w i) in
    ap (λ k. take w (drop k (f x ++ flat_map f xs))) e
    ∙ ap (take w) (sym (drop-drop (w * i) w (f x ++ flat_map f xs)) ∙ ap (drop (w * i)) (drop_at (f x) (flat_map f xs) w (each 0 (omega arith))))
    ∙ chunk_at f w d xs (λ j l. each (suc j) (omega arith)) i (omega arith)

pub length_joined : {A : Type 0} (f : A → List ℕ) (w : ℕ) (d : A) (xs : List A) → ((j : ℕ) → j < length xs → length (f (get_or xs j d)) ≡ w) → length (flat_map f xs) ≡ w * length xs
length_joined f w d [] each = sym (mul-zero w)
length_joined f w d (x ∷ xs) each =
    length-append (f x) (flat_map f xs)
    ∙ omega (arith, each 0 (omega arith), length_joined f w d xs (λ j l. each (suc j) (omega arith)), mul-suc w (length xs))
