-- A kind's height falls from a kind to any other above it.
use Rattle.std.proofs.Common.{◌≡◌, ℕ, zero, suc, ◌<◌, ◌≤◌, Bool, true, false, cond, ◌&&◌, ltb, ◌⊎◌, length, sym, refl, ap, ◌∙◌, inl, inr, ⊎_elim, arith}
use Rattle.std.proofs.lemmas.Bool.{ltb-true, lt-ltb, le-ltb, and_parts, and_from, and_left, and_right, cond-true, cond-false, cases_eq, cases_lt}
use Rattle.kinds.specs.declared.kind.Kind.{Kind}
use Rattle.kinds.specs.declared.kind.Kind.TheVariants.{Unusable}
use Rattle.format.specs.Parts.{Parts, parent_of}
use Rattle.lattice.specs.Order.{Ancestor, parent, further, Below, same, unusable, null, ancestor, Lower}
use Rattle.lattice.specs.Height.{count_from, ancestors, most, deepest, kind_height}

-- the root has no ancestors to count, nor has a class that the unit has not
root_count : (p : Parts) (n c : ℕ) → c ≡ 0 → count_from p n c ≡ 0
root_count p zero c e = refl
root_count p (suc n) c e =
    cond-false (ltb 0 c && ltb c (length p.classes)) (suc (count_from p n (parent_of p c))) 0
    (and_left (ltb 0 c) (ltb c (length p.classes)) (le-ltb 0 c (omega arith)))

unknown_count : (p : Parts) (n c : ℕ) → length p.classes ≤ c → count_from p n c ≡ 0
unknown_count p zero c l = refl
unknown_count p (suc n) c l =
    cond-false (ltb 0 c && ltb c (length p.classes)) (suc (count_from p n (parent_of p c))) 0
    (and_right (ltb 0 c) (ltb c (length p.classes)) (le-ltb c (length p.classes) l))

-- any other has its parent's and its parent
climbed_count : (p : Parts) (n c : ℕ) → 0 < c → c < length p.classes → count_from p (suc n) c ≡ suc (count_from p n (parent_of p c))
climbed_count p n c z l =
    cond-true (ltb 0 c && ltb c (length p.classes)) (suc (count_from p n (parent_of p c))) 0
    (and_from (ltb 0 c) (ltb c (length p.classes)) (lt-ltb 0 c z) (lt-ltb c (length p.classes) l))

-- one climb counts alike, where what is left to climb does
count_once : (p : Parts) → Lower p → (n m c : ℕ) (b : Bool) → c ≤ suc n → c ≤ suc m → (ltb 0 c && ltb c (length p.classes)) ≡ b → (parent_of p c ≤ n → parent_of p c ≤ m → count_from p n (parent_of p c) ≡ count_from p m (parent_of p c)) → cond b (suc (count_from p n (parent_of p c))) 0 ≡ cond b (suc (count_from p m (parent_of p c))) 0
count_once p low n m c true h k t ih =
    let s = and_parts (ltb 0 c) (ltb c (length p.classes)) t in
    let l : parent_of p c < c = low c (ltb-true 0 c s.0) (ltb-true c _ s.1) in
    ap suc (ih (omega arith) (omega arith))
count_once p low n m c false h k t ih = refl

-- the class's number of climbs suffices, and more count no more
count_alike : (p : Parts) → Lower p → (n m c : ℕ) → c ≤ n → c ≤ m → count_from p n c ≡ count_from p m c
count_alike p low zero m c h k = sym (root_count p m c (omega arith))
count_alike p low (suc n) zero c h k = root_count p (suc n) c (omega arith)
count_alike p low (suc n) (suc m) c h k =
    count_once p low n m c (ltb 0 c && ltb c (length p.classes)) h k refl (count_alike p low n m (parent_of p c))

-- a class has one ancestor more than its parent
parent_count : (p : Parts) → Lower p → (c : ℕ) → 0 < c → c < length p.classes → ancestors p c ≡ suc (ancestors p (parent_of p c))
parent_count p low c z l =
    let m : parent_of p c < c = low c z l in
    count_alike p low c (suc c) c (omega arith) (omega arith)
    ∙ climbed_count p c c z l
    ∙ ap suc (count_alike p low c (parent_of p c) (parent_of p c) (omega arith) (omega arith))

-- an ancestor has fewer ancestors
pub ancestor_fewer : (p : Parts) → Lower p → {c d : ℕ} → Ancestor p c d → ancestors p d < ancestors p c
ancestor_fewer p low (parent {c = c} z l) = omega (arith, parent_count p low c z l)
ancestor_fewer p low (further {c = c} z l a) = let m = ancestor_fewer p low a in omega (arith, parent_count p low c z l)

-- of the first n classes none has more ancestors than the most
most_at : (p : Parts) (n c : ℕ) → c < n → ancestors p c ≤ most p n
most_at p zero c l = absurd (omega arith)
most_at p (suc n) c l =
    ⊎_elim (λ (e : c ≡ n). omega (arith, ap (ancestors p) e)) (λ (ne : c ≡ n → ⊥). omega (arith, most_at p n c (omega (arith, ne)))) (cases_eq c n)

-- no class has more ancestors than the deepest
pub deepest_most : (p : Parts) (c : ℕ) → ancestors p c ≤ deepest p
deepest_most p c =
    ⊎_elim (most_at p (length p.classes) c) (λ (l : length p.classes ≤ c). omega (arith, unknown_count p c c l)) (cases_lt c (length p.classes))

-- every kind but unusable stands higher than unusable
unusable_lowest : (p : Parts) (a : Kind) → (a ≡ Unusable) ⊎ (0 < kind_height p a)
unusable_lowest p Unusable = inl refl
unusable_lowest p a = inr (omega arith)

-- above a kind lie itself and kinds of lower height
pub height_falls : (p : Parts) → Lower p → (a b : Kind) → Below p a b → (a ≡ b) ⊎ (kind_height p b < kind_height p a)
height_falls p low a b same = inl refl
height_falls p low a b unusable = unusable_lowest p a
height_falls p low a b (null {c = c}) = inr (omega (arith, deepest_most p c))
height_falls p low a b (ancestor x) = inr (omega (arith, ancestor_fewer p low x))
