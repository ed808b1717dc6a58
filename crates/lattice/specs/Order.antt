-- Which kinds lie below which, and the least kind above two.
use Rattle.std.specs.Prelude.{◌≡◌, ℕ, ◌<◌, length}
use Rattle.kinds.specs.declared.kind.Kind.{Kind}
use Rattle.kinds.specs.declared.kind.Kind.TheVariants.{Null, Unusable, Class}
use Rattle.format.specs.Parts.{Parts, parent_of}

-- The ancestors of a class are its parent and its parent's ancestors. The root has none, nor has a class that the unit has not.
pub data Ancestor (p : Parts) : ℕ → ℕ → Type 0 where
  parent : {c : ℕ} → 0 < c → c < length p.classes → Ancestor p c (parent_of p c)
  further : {c d : ℕ} → 0 < c → c < length p.classes → Ancestor p (parent_of p c) d → Ancestor p c d

-- A kind lies below itself and unusable, null also below every class, a class below its ancestors, and nothing else.
pub data Below (p : Parts) : Kind → Kind → Type 0 where
  same : {k : Kind} → Below p k k
  unusable : {k : Kind} → Below p k Unusable
  null : {c : ℕ} → Below p Null (Class c)
  ancestor : {c d : ℕ} → Ancestor p c d → Below p (Class c) (Class d)

-- "Lies below" is a partial order.
pub record Order (p : Parts) : Type 0 where
  pub reflexive : (a : Kind) → Below p a a
  pub transitive : (a b c : Kind) → Below p a b → Below p b c → Below p a c
  pub antisymmetric : (a b : Kind) → Below p a b → Below p b a → a ≡ b

-- k is the least kind above a and b.
pub record Least (p : Parts) (a b k : Kind) : Type 0 where
  pub above_left : Below p a k
  pub above_right : Below p b k
  pub least : (m : Kind) → Below p a m → Below p b m → Below p k m

-- Every class but the root has a parent of lower number.
abbrev pub Lower : Parts → Type 0
Lower p = (c : ℕ) → 0 < c → c < length p.classes → parent_of p c < c
