-- Kinds of which not both are classes: which lie below which, and what is least above two.
use Rattle.std.proofs.Common.{◌≡◌, ℕ, true, false, ◌⊎◌, Decides, sym, refl, ◌∙◌, subst, ⊎_elim}
use Rattle.std.proofs.lemmas.Bool.{false≢true}
use Rattle.kinds.specs.declared.kind.Kind.{Kind}
use Rattle.kinds.specs.declared.kind.Kind.TheVariants.{Int, Null, Unusable, Class}
use Rattle.format.specs.Parts.{Parts}
use Rattle.lattice.specs.Order.{Below, same, unusable, null, Least}

pub yes : {A : Type 0} → A → Decides true A
yes a = (λ _. a, λ _. refl)

pub no : {A : Type 0} → (A → ⊥) → Decides false A
no n = (λ e. absurd (false≢true e), λ a. absurd (n a))

pub below_equal : (p : Parts) (a b : Kind) → a ≡ b → Below p a b
below_equal p a b e = subst (λ (k : Kind). Below p a k) e same

pub below_unusable : (p : Parts) (a b : Kind) → b ≡ Unusable → Below p a b
below_unusable p a b e = subst (λ (k : Kind). Below p a k) (sym e) unusable

pub null_below : (p : Parts) (a b : Kind) (c : ℕ) → a ≡ Null → b ≡ Class c → Below p a b
null_below p a b c e f = rw (e, f) null

-- only int lies below int, and only null below null
int_itself : (p : Parts) (a : Kind) → Below p a Int → a ≡ Int
int_itself p a same = refl

null_itself : (p : Parts) (a : Kind) → Below p a Null → a ≡ Null
null_itself p a same = refl

pub below_int : (p : Parts) (a b : Kind) → b ≡ Int → Below p a b → a ≡ Int
below_int p a b e h = int_itself p a (subst (λ (k : Kind). Below p a k) e h)

pub below_null : (p : Parts) (a b : Kind) → b ≡ Null → Below p a b → a ≡ Null
below_null p a b e h = null_itself p a (subst (λ (k : Kind). Below p a k) e h)

int_class : (p : Parts) (c : ℕ) → Below p Int (Class c) → ⊥
int_class p c h = elim h [ ]

unusable_class : (p : Parts) (c : ℕ) → Below p Unusable (Class c) → ⊥
unusable_class p c h = elim h [ ]

-- neither int nor unusable lies below a class
pub not_below_class : (p : Parts) (a b : Kind) (c : ℕ) → (a ≡ Int) ⊎ (a ≡ Unusable) → b ≡ Class c → Below p a b → ⊥
not_below_class p a b c is f h =
    let g : Below p a (Class c) = subst (λ (k : Kind). Below p a k) f h in
    ⊎_elim
    (λ (e : a ≡ Int). int_class p c (subst (λ (k : Kind). Below p k (Class c)) e g))
    (λ (e : a ≡ Unusable). unusable_class p c (subst (λ (k : Kind). Below p k (Class c)) e g))
    is

pub least_swap : (p : Parts) (a b k : Kind) → Least p a b k → Least p b a k
least_swap p a b k h = record { above_left = h.above_right; above_right = h.above_left; least = λ m x y. h.least m y x }

-- of two kinds where one lies below the other, that other is the least
pub least_above : (p : Parts) (a b k : Kind) → Below p a b → b ≡ k → Least p a b k
least_above p a b k h e =
    subst (λ (x : Kind). Least p a b x) e (record { above_left = h; above_right = same; least = λ m x y. y })

pub unusable_least : (p : Parts) (a b : Kind) → b ≡ Unusable → Least p a b Unusable
unusable_least p a b e = least_above p a b Unusable (below_unusable p a b e) e

over_int : (p : Parts) (a m : Kind) → (a ≡ Int → ⊥) → Below p Int m → Below p a m → Below p Unusable m
over_int p a m ne same h = absurd (ne (int_itself p a h))
over_int p a m ne unusable h = same

-- only unusable lies above int and another kind
pub int_least : (p : Parts) (a b : Kind) → (a ≡ Int → ⊥) → b ≡ Int → Least p a b Unusable
int_least p a b ne e =
    record {
      above_left = unusable;
      above_right = unusable;
      least = λ m x y. over_int p a m ne (subst (λ (k : Kind). Below p k m) e y) x;
    }

-- a kind that is not int, with int or unusable
pub mixed_least : (p : Parts) (a b : Kind) → (a ≡ Int → ⊥) → (b ≡ Int) ⊎ (b ≡ Unusable) → Least p a b Unusable
mixed_least p a b ne is = ⊎_elim (int_least p a b ne) (unusable_least p a b) is

-- null, with null or a class
pub null_least : (p : Parts) (a b : Kind) → a ≡ Null → (b ≡ Null) ⊎ ((c : ℕ) × (b ≡ Class c)) → Least p a b b
null_least p a b e is =
    least_above p a b b
    (⊎_elim (λ (f : b ≡ Null). below_equal p a b (e ∙ sym f)) (λ (f : (c : ℕ) × (b ≡ Class c)). null_below p a b f.0 e f.1) is)
    refl
