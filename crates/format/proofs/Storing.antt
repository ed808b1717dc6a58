-- Which codes stand for what a slot or a field may hold.
use Rattle.std.proofs.Common.{◌≡◌, ℕ, ◌<◌, ◌≤◌, Bool, true, false, cond, ◌||◌, eqb, ltb, Decides, sym, refl, ◌∙◌, subst, ⊎_elim, arith}
use Rattle.std.proofs.lemmas.Bool.{or_cases, or_left, or_right, eqb-true, ltb-true, lt-ltb, cond-false, ne_eqb}
use Rattle.kinds.specs.declared.kind.Kind.{Kind}
use Rattle.kinds.specs.declared.kind.Kind.TheVariants.{Int, Null, Unusable, Class}
use Rattle.kinds.specs.Codes.{kind_of}
use Rattle.format.specs.Rules.{Storable, IsClass}
use Rattle.format.specs.Tests.{storable}

-- a code below the class count is a class's
pub class_code : (n w : ℕ) → n ≤ 256 → w < n → kind_of w ≡ Class w
class_code n w h l =
    cond-false (eqb w 65535) _ _ (ne_eqb w 65535 (λ e. omega arith))
    ∙ cond-false (eqb w 65534) _ _ (ne_eqb w 65534 (λ e. omega arith))
    ∙ cond-false (eqb w 65533) _ _ (ne_eqb w 65533 (λ e. omega arith))

pub moved : (m n : ℕ) (j k : Kind) → m ≡ n → j ≡ k → Storable m j → Storable n k
moved m n j k e f h = subst (λ (x : ℕ). Storable x k) e (subst (λ (x : Kind). Storable m x) f h)

to_storable : (n w : ℕ) → n ≤ 256 → storable n w ≡ true → Storable n (kind_of w)
to_storable n w h t =
    ⊎_elim
    (λ (e : eqb w 65535 ≡ true). subst (λ (x : ℕ). Storable n (kind_of x)) (sym (eqb-true w 65535 e)) tt)
    (λ (e : ltb w n ≡ true). let l : w < n = ltb-true w n e in moved n n (Class w) (kind_of w) refl (sym (class_code n w h l)) l)
    (or_cases (eqb w 65535) (ltb w n) t)

from_storable : (n w : ℕ) → Storable n (kind_of w) → storable n w ≡ true
from_storable n w s = step (eqb w 65535) (eqb w 65534) (eqb w 65533) refl s
  where
    step : (a b c : Bool) → eqb w 65535 ≡ a → Storable n (cond a Int (cond b Null (cond c Unusable (Class w)))) → (eqb w 65535 || ltb w n) ≡ true
    step true b c e h = or_left (eqb w 65535) (ltb w n) e
    step false true c e h = absurd h
    step false false true e h = absurd h
    step false false false e h = or_right (eqb w 65535) (ltb w n) (lt-ltb w n h)

pub decides_storable : (n w : ℕ) → n ≤ 256 → Decides (storable n w) (Storable n (kind_of w))
decides_storable n w h = (to_storable n w h, from_storable n w)

to_class : (n w : ℕ) → n ≤ 256 → ltb w n ≡ true → Storable n (kind_of w) × IsClass (kind_of w)
to_class n w h t =
    let l : w < n = ltb-true w n t in
    let e : Class w ≡ kind_of w = sym (class_code n w h l) in
    (moved n n (Class w) (kind_of w) refl e l, subst (λ (x : Kind). IsClass x) e tt)

from_class : (n w : ℕ) → Storable n (kind_of w) → IsClass (kind_of w) → ltb w n ≡ true
from_class n w s k = step (eqb w 65535) (eqb w 65534) (eqb w 65533) s k
  where
    step : (a b c : Bool) → Storable n (cond a Int (cond b Null (cond c Unusable (Class w)))) → IsClass (cond a Int (cond b Null (cond c Unusable (Class w)))) → ltb w n ≡ true
    step true b c h i = absurd i
    step false true c h i = absurd i
    step false false true h i = absurd i
    step false false false h i = lt-ltb w n h

pub decides_class : (n w : ℕ) → n ≤ 256 → Decides (ltb w n) (Storable n (kind_of w) × IsClass (kind_of w))
decides_class n w h = (to_class n w h, λ (b : Storable n (kind_of w) × IsClass (kind_of w)). from_class n w b.0 b.1)
