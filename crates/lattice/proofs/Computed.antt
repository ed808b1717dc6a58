-- What computes is what is meant: the order's test decides the order, and the kind that climbing finds is the least.
use Rattle.std.proofs.Common.{◌≡◌, ℕ, zero, suc, ◌+◌, ◌<◌, ◌≤◌, Bool, true, false, cond, ◌&&◌, ◌||◌, eqb, ltb, length, Decides, sym, refl, ap, arith}
use Rattle.std.proofs.lemmas.Bool.{eqb-true, eqb-false, ltb-true, ltb-false}
use Rattle.std.proofs.lemmas.Bool.Decides.{Decides-eqb, Decides-like}
use Rattle.kinds.specs.declared.kind.Kind.{Kind}
use Rattle.kinds.specs.declared.kind.Kind.TheVariants.{Int, Null, Unusable, Class}
use Rattle.format.specs.Parts.{Parts, parent_of}
use Rattle.lattice.specs.Order.{Below, same, unusable, null, ancestor, Least, Lower}
use Rattle.lattice.specs.Computing.{climbs, is_a, lies, meet, least_of}
use Rattle.lattice.proofs.Orders.{below_both}
use Rattle.lattice.proofs.Plain.{yes, no, below_equal, least_above, least_swap, int_least, unusable_least}
use Rattle.lattice.proofs.Climbs.{below_other, climb_decides, root_none, unknown_none}
use Rattle.lattice.proofs.Joins.{climb_least, lone_least}

-- only the root itself lies above the root, among the classes
root_below : (p : Parts) (c d : ℕ) → c ≡ 0 → Below p (Class c) (Class d) → c ≡ d
root_below p c d e same = refl
root_below p c d e (ancestor a) = absurd (root_none p c d e a)

-- one climb: by whether the class is the wanted one, is not the root, and is one that the unit has
climb_once : (p : Parts) → Lower p → (c d n : ℕ) (r a x y : Bool) → c ≤ suc n → eqb c d ≡ a → ltb 0 c ≡ x → ltb c (length p.classes) ≡ y → (parent_of p c ≤ n → Decides r (Below p (Class (parent_of p c)) (Class d))) → Decides (a || (x && (y && r))) (Below p (Class c) (Class d))
climb_once p low c d n r true x y le e f g h = yes (below_equal p (Class c) (Class d) (ap Class (eqb-true c d e)))
climb_once p low c d n r false true true le e f g h =
    let m : parent_of p c < c = low c (ltb-true 0 c f) (ltb-true c _ g) in
    climb_decides p c d (parent_of p c) (eqb-false c d e) (ltb-true 0 c f) (ltb-true c _ g) refl r (h (omega arith))
climb_once p low c d n r false true false le e f g h = no (λ b. unknown_none p c d (ltb-false c _ g) (below_other p c d (eqb-false c d e) b))
climb_once p low c d n r false false y le e f g h =
    let z : c ≡ 0 = omega (arith, ltb-false 0 c f) in
    no (λ b. root_none p c d z (below_other p c d (eqb-false c d e) b))

-- as many climbs as the class's number suffice
climbs_decides : (p : Parts) → Lower p → (n c d : ℕ) → c ≤ n → Decides (climbs p n c d) (Below p (Class c) (Class d))
climbs_decides p low zero c d l =
    Decides-like (eqb c d) (λ e. below_equal p (Class c) (Class d) (ap Class e)) (root_below p c d (omega arith)) (Decides-eqb c d)
climbs_decides p low (suc n) c d l =
    climb_once p low c d n (climbs p n (parent_of p c) d) (eqb c d) (ltb 0 c) (ltb c (length p.classes)) l refl refl refl
    (climbs_decides p low n (parent_of p c) d)

-- a class is another or has it as an ancestor exactly if the climb finds it
pub is_a_decides : (p : Parts) → Lower p → (c d : ℕ) → Decides (is_a p c d) (Below p (Class c) (Class d))
is_a_decides p low c d = climbs_decides p low c c d (omega arith)

-- the order's test decides the order
pub lies_decides : (p : Parts) → Lower p → (a b : Kind) → Decides (lies p a b) (Below p a b)
lies_decides p low (Class c) (Class d) = is_a_decides p low c d
lies_decides p low Int Int = yes same
lies_decides p low Null Null = yes same
lies_decides p low Null (Class d) = yes null
lies_decides p low a Unusable = yes unusable
lies_decides p low a b = no (λ h. elim h [ ])

-- of a class and itself, the class
equal_least : (p : Parts) (c d : ℕ) → c ≡ d → Least p (Class c) (Class d) (Class c)
equal_least p c d e =
    least_swap p (Class d) (Class c) (Class c)
    (least_above p (Class d) (Class c) (Class c) (below_equal p (Class d) (Class c) (ap Class (sym e))) refl)

-- one climb from the larger number, by what the three tests say; left and right are what is least after the climb
meet_once : (p : Parts) → Lower p → (c d n : ℕ) (left right : Kind) (a b x y : Bool) → c + d < suc n → eqb c d ≡ a → ltb d c ≡ b → ltb c (length p.classes) ≡ x → ltb d (length p.classes) ≡ y → (parent_of p c + d < n → Least p (Class (parent_of p c)) (Class d) left) → (c + parent_of p d < n → Least p (Class c) (Class (parent_of p d)) right) → Least p (Class c) (Class d) (cond a (Class c) (cond b (cond x left Unusable) (cond y right Unusable)))
meet_once p low c d n left right true b x y s e f g i h k = equal_least p c d (eqb-true c d e)
meet_once p low c d n left right false true true y s e f g i h k =
    let l : d < c = ltb-true d c f in
    let m : parent_of p c < c = low c (omega arith) (ltb-true c _ g) in
    climb_least p low c d (parent_of p c) left l (ltb-true c _ g) refl (h (omega arith))
meet_once p low c d n left right false true false y s e f g i h k = lone_least p low c d (ltb-true d c f) (ltb-false c _ g)
meet_once p low c d n left right false false x true s e f g i h k =
    let l : c < d = omega (arith, ltb-false d c f, eqb-false c d e) in
    let m : parent_of p d < d = low d (omega arith) (ltb-true d _ i) in
    least_swap p (Class d) (Class c) right
    (climb_least p low d c (parent_of p d) right l (ltb-true d _ i) refl
    (least_swap p (Class c) (Class (parent_of p d)) right (k (omega arith))))
meet_once p low c d n left right false false x false s e f g i h k =
    let l : c < d = omega (arith, ltb-false d c f, eqb-false c d e) in
    least_swap p (Class d) (Class c) Unusable (lone_least p low d c l (ltb-false d _ i))

-- as many climbs as the two numbers together suffice
meet_least : (p : Parts) → Lower p → (n c d : ℕ) → c + d < n → Least p (Class c) (Class d) (meet p n c d)
meet_least p low zero c d s = absurd (omega arith)
meet_least p low (suc n) c d s =
    meet_once p low c d n (meet p n (parent_of p c) d) (meet p n c (parent_of p d)) (eqb c d) (ltb d c) (ltb c (length p.classes))
    (ltb d (length p.classes)) s refl refl refl refl (meet_least p low n (parent_of p c) d) (meet_least p low n c (parent_of p d))

-- above int and another kind lies only unusable
with_int : (p : Parts) (a : Kind) → (a ≡ Int → ⊥) → Least p Int a Unusable
with_int p a ne = least_swap p a Int Unusable (int_least p a Int ne refl)

-- what is computed is the least
pub least_of_is_least : (p : Parts) → Lower p → (a b : Kind) → Least p a b (least_of p a b)
least_of_is_least p low (Class c) (Class d) = meet_least p low (suc (c + d)) c d (omega arith)
least_of_is_least p low Int Int = least_above p Int Int Int same refl
least_of_is_least p low Null Null = least_above p Null Null Null same refl
least_of_is_least p low Null (Class d) = least_above p Null (Class d) (Class d) null refl
least_of_is_least p low (Class c) Null = least_swap p Null (Class c) (Class c) (least_above p Null (Class c) (Class c) null refl)
least_of_is_least p low Unusable b = least_swap p b Unusable Unusable (unusable_least p b Unusable refl)
least_of_is_least p low a Unusable = unusable_least p a Unusable refl
least_of_is_least p low Int b = with_int p b (λ e. cc)
least_of_is_least p low a Int = int_least p a Int (λ e. cc) refl

-- no two kinds are both least
pub least_unique : (p : Parts) → Lower p → (a b j k : Kind) → Least p a b j → Least p a b k → j ≡ k
least_unique p low a b j k x y =
    below_both p low (x.least k y.above_left y.above_right) (y.least j x.above_left x.above_right)
