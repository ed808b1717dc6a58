-- Ancestors have lower numbers, and an ancestor's ancestor is one.
use Rattle.std.proofs.Common.{◌≡◌, ℕ, ◌<◌, ◌⊎◌, length, refl, inl, inr, arith}
use Rattle.format.specs.Parts.{Parts, parent_of}
use Rattle.lattice.specs.Order.{Ancestor, parent, further, Lower}

pub ancestor_lower : (p : Parts) → Lower p → {c d : ℕ} → Ancestor p c d → d < c
ancestor_lower p low (parent {c = c} z l) = low c z l
ancestor_lower p low (further {c = c} z l a) = let h = low c z l in let m = ancestor_lower p low a in omega arith

pub ancestor_further : (p : Parts) {c d e : ℕ} → Ancestor p c d → Ancestor p d e → Ancestor p c e
ancestor_further p (parent z l) b = further z l b
ancestor_further p (further z l a) b = further z l (ancestor_further p a b)

-- an ancestor is the parent or one of the parent's
pub record Step (p : Parts) (c d : ℕ) : Type 0 where
  pub inner : 0 < c
  pub known : c < length p.classes
  pub next : (parent_of p c ≡ d) ⊎ Ancestor p (parent_of p c) d

pub ancestor_step : (p : Parts) {c d : ℕ} → Ancestor p c d → Step p c d
ancestor_step p (parent z l) = record { inner = z; known = l; next = inl refl }
ancestor_step p (further z l a) = record { inner = z; known = l; next = inr a }
