-- The order of kinds as tests, and which kinds a unit has.
use Rattle.std.proofs.Common.{◌≡◌, ℕ, ◌<◌, true, ◌⊎◌, length, refl, arith, ltb-true, lt-ltb}
use Rattle.std.proofs.lemmas.Bool.{false≢true}
use Rattle.kinds.specs.declared.kind.Kind.{Kind}
use Rattle.kinds.specs.declared.kind.Kind.TheVariants.{Int, Null, Unusable, Class}
use Rattle.format.specs.Parts.{Parts}
use Rattle.lattice.specs.Order.{Below, same, unusable, ancestor, Lower}
use Rattle.lattice.specs.Computing.{lies, least_of}
use Rattle.lattice.specs.Height.{kind_height}
use Rattle.lattice.proofs.Ancestors.{ancestor_lower}
use Rattle.lattice.proofs.Orders.{below_further, below_both}
use Rattle.lattice.proofs.Computed.{lies_decides, least_of_is_least}
use Rattle.lattice.proofs.Heights.{height_falls}
use Rattle.types_theory.specs.Order.{known}
use Rattle.types_theory.specs.Effect.{is_reference}

module _ (p : Parts) (low : Lower p) where
  pub lies_same : (a : Kind) → lies p a a ≡ true
  lies_same a = (lies_decides p low a a).1 same

  pub lies_further : (a b c : Kind) → lies p a b ≡ true → lies p b c ≡ true → lies p a c ≡ true
  lies_further a b c h k = (lies_decides p low a c).1 (below_further p ((lies_decides p low a b).0 h) ((lies_decides p low b c).0 k))

  pub lies_both : (a b : Kind) → lies p a b ≡ true → lies p b a ≡ true → a ≡ b
  lies_both a b h k = below_both p low ((lies_decides p low a b).0 h) ((lies_decides p low b a).0 k)

  pub lies_left : (a b : Kind) → lies p a (least_of p a b) ≡ true
  lies_left a b = (lies_decides p low a (least_of p a b)).1 (least_of_is_least p low a b).above_left

  pub lies_right : (a b : Kind) → lies p b (least_of p a b) ≡ true
  lies_right a b = (lies_decides p low b (least_of p a b)).1 (least_of_is_least p low a b).above_right

  pub lies_least : (a b m : Kind) → lies p a m ≡ true → lies p b m ≡ true → lies p (least_of p a b) m ≡ true
  lies_least a b m h k =
      (lies_decides p low (least_of p a b) m).1 ((least_of_is_least p low a b).least m ((lies_decides p low a m).0 h) ((lies_decides p low b m).0 k))

  pub lies_falls : (a b : Kind) → lies p a b ≡ true → (a ≡ b) ⊎ (kind_height p b < kind_height p a)
  lies_falls a b h = height_falls p low a b ((lies_decides p low a b).0 h)

  -- what lies above a class that the unit has, the unit has
  above_known : (c : ℕ) (k : Kind) → c < length p.classes → Below p (Class c) k → known p k ≡ true
  above_known c k l same = lt-ltb c (length p.classes) l
  above_known c k l unusable = refl
  above_known c k l (ancestor {d = d} a) =
      lt-ltb d (length p.classes) (let h = ancestor_lower p low a in omega arith)

  pub known_least : (a b : Kind) → known p a ≡ true → known p b ≡ true → known p (least_of p a b) ≡ true
  known_least Int Int h k = refl
  known_least Int Null h k = refl
  known_least Int Unusable h k = refl
  known_least Int (Class d) h k = refl
  known_least Null Int h k = refl
  known_least Null Null h k = refl
  known_least Null Unusable h k = refl
  known_least Null (Class d) h k = k
  known_least Unusable b h k = refl
  known_least (Class c) Int h k = refl
  known_least (Class c) Null h k = h
  known_least (Class c) Unusable h k = refl
  known_least (Class c) (Class d) h k =
      above_known c (least_of p (Class c) (Class d)) (ltb-true c (length p.classes) h) (least_of_is_least p low (Class c) (Class d)).above_left

  -- what lies below a reference is one
  pub reference_below : (a b : Kind) → lies p a b ≡ true → is_reference b ≡ true → is_reference a ≡ true
  reference_below Int Null h k = absurd (false≢true h)
  reference_below Int Int h k = k
  reference_below Int Unusable h k = k
  reference_below Int (Class d) h k = absurd (false≢true h)
  reference_below Null b h k = refl
  reference_below Unusable Int h k = k
  reference_below Unusable Null h k = h
  reference_below Unusable Unusable h k = k
  reference_below Unusable (Class d) h k = h
  reference_below (Class c) b h k = refl
