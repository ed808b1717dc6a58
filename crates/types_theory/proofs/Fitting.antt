-- Values that fit kinds: they fit the kinds above, and still fit after objects were made or changed.
use Rattle.std.proofs.Common.{◌≡◌, ℕ, zero, suc, ◌<◌, ◌≤◌, true, List, length, get_or, pos, sym, refl, ◌∙◌, subst, arith}
use Rattle.std.proofs.lemmas.Bool.{false≢true}
use Rattle.kinds.specs.declared.kind.Kind.{Kind}
use Rattle.kinds.specs.declared.kind.Kind.TheVariants.{Int, Null, Unusable, Class}
use Rattle.opcodes.specs.declared.opcode.Shape.{Shape}
use Rattle.opcodes.specs.declared.opcode.Shape.TheVariants.{Int as AnInt, Null as ANull, Ref as ARef, Any as AnyValue, OfSlot, OfClass, OfOwner, OfField}
use Rattle.format.specs.Parts.{Parts, parent_of, field_count, field_of}
use Rattle.format.specs.Rules.{Keeps}
use Rattle.lattice.specs.Order.{Ancestor, parent, further, Below, same, unusable, null, ancestor, Lower}
use Rattle.lattice.specs.Computing.{lies, is_a}
use Rattle.lattice.proofs.Orders.{below_further, keeps_lower}
use Rattle.lattice.proofs.Computed.{is_a_decides, lies_decides}
use Rattle.machine.specs.Values.{Value, int, ref, Object}
use Rattle.machine.specs.Conforming.{conforms, class_of_object, is_ref}
use Rattle.machine.specs.Step.{meets}
use Rattle.types_theory.specs.Effect.{is_reference, suits}
use Rattle.types_theory.specs.Description.{LeadsTo, Fits, FitAll, none, more, ObjectFits}
use Rattle.types_theory.proofs.Stacks.{StackBelow}

-- every value conforms to unusable
any : (p : Parts) (os : List Object) (v : Value) → conforms p os v Unusable ≡ true
any p os (int z) = refl
any p os (ref zero) = refl
any p os (ref (suc i)) = refl

conforms_above : (p : Parts) → Lower p → (os : List Object) (v : Value) {a b : Kind} → Below p a b → conforms p os v a ≡ true → conforms p os v b ≡ true
conforms_above p low os v same h = h
conforms_above p low os v unusable h = any p os v
conforms_above p low os (int z) null h = h
conforms_above p low os (ref zero) null h = refl
conforms_above p low os (ref (suc i)) null h = absurd (false≢true h)
conforms_above p low os (int z) (ancestor a) h = h
conforms_above p low os (ref zero) (ancestor a) h = refl
conforms_above p low os (ref (suc i)) (ancestor {c = c} {d = d} a) h =
    (is_a_decides p low (class_of_object os i) d).1 (below_further p ((is_a_decides p low (class_of_object os i) c).0 h) (ancestor a))

pub fits_above : (p : Parts) → Lower p → (os : List Object) (v : Value) (a b : Kind) → lies p a b ≡ true → Fits p os v a → Fits p os v b
fits_above p low os v a b h f =
    record { conforming = conforms_above p low os v ((lies_decides p low a b).0 h) f.conforming; leading = f.leading }

pub fit_all_above : (p : Parts) → Lower p → (os : List Object) {vs : List Value} {ks js : List Kind} → StackBelow p ks js → FitAll p os vs ks → FitAll p os vs js
fit_all_above p low os StackBelow.none none = none
fit_all_above p low os (StackBelow.more {k = k} {j = j} h m) (more {v = v} f g) = more (fits_above p low os v k j h f) (fit_all_above p low os m g)

pub fit_length : (p : Parts) (os : List Object) {vs : List Value} {ks : List Kind} → FitAll p os vs ks → length vs ≡ length ks
fit_length p os none = refl
fit_length p os (more f g) = let e = fit_length p os g in omega arith

-- a value of a kind that is a reference is one
is_ref_fits : (p : Parts) (os : List Object) (v : Value) (k : Kind) → is_reference k ≡ true → conforms p os v k ≡ true → is_ref v ≡ true
is_ref_fits p os (int z) Int h c = h
is_ref_fits p os (int z) Null h c = c
is_ref_fits p os (int z) Unusable h c = h
is_ref_fits p os (int z) (Class d) h c = c
is_ref_fits p os (ref r) k h c = refl

-- a value whose kind suits the table is what the machine asks for
pub meets_suited : (p : Parts) → Lower p → (os : List Object) (n : ℕ) (s : Shape) (v : Value) (k : Kind) → suits p n s k ≡ true → Fits p os v k → meets p os n s v ≡ true
meets_suited p low os n AnInt v k h f = (fits_above p low os v k _ h f).conforming
meets_suited p low os n ANull v k h f = (fits_above p low os v k _ h f).conforming
meets_suited p low os n ARef v k h f = is_ref_fits p os v k h f.conforming
meets_suited p low os n AnyValue v k h f = refl
meets_suited p low os n OfSlot v k h f = (fits_above p low os v k _ h f).conforming
meets_suited p low os n OfClass v k h f = (fits_above p low os v k _ h f).conforming
meets_suited p low os n OfOwner v k h f = (fits_above p low os v k _ h f).conforming
meets_suited p low os n OfField v k h f = (fits_above p low os v k _ h f).conforming

-- objects that are still of their classes, and perhaps more of them
pub record Grown (os os' : List Object) : Type 0 where
  pub most : length os ≤ length os'
  pub classes : (i : ℕ) → i < length os → class_of_object os' i ≡ class_of_object os i

fits_grown_at : (p : Parts) (os os' : List Object) → Grown os os' → (v : Value) (k : Kind) → LeadsTo (length os) v → conforms p os v k ≡ true → conforms p os' v k ≡ true
fits_grown_at p os os' g (int z) Int l h = refl
fits_grown_at p os os' g (int z) Null l h = h
fits_grown_at p os os' g (int z) Unusable l h = refl
fits_grown_at p os os' g (int z) (Class d) l h = h
fits_grown_at p os os' g (ref zero) Int l h = h
fits_grown_at p os os' g (ref zero) Null l h = refl
fits_grown_at p os os' g (ref zero) Unusable l h = refl
fits_grown_at p os os' g (ref zero) (Class d) l h = refl
fits_grown_at p os os' g (ref (suc i)) Int l h = h
fits_grown_at p os os' g (ref (suc i)) Null l h = h
fits_grown_at p os os' g (ref (suc i)) Unusable l h = refl
fits_grown_at p os os' g (ref (suc i)) (Class d) l h = subst (λ (c : ℕ). is_a p c d ≡ true) (sym (g.classes i l)) h

leads_grown : (n m : ℕ) (v : Value) → n ≤ m → LeadsTo n v → LeadsTo m v
leads_grown n m (int z) l h = tt
leads_grown n m (ref zero) l h = tt
leads_grown n m (ref (suc i)) l h = omega arith

module _ (p : Parts) (os os' : List Object) (g : Grown os os') where
  pub fits_grown : (v : Value) (k : Kind) → Fits p os v k → Fits p os' v k
  fits_grown v k f =
      record { conforming = fits_grown_at p os os' g v k f.leading f.conforming; leading = leads_grown _ _ v g.most f.leading }

  pub fit_all_grown : {vs : List Value} {ks : List Kind} → FitAll p os vs ks → FitAll p os' vs ks
  fit_all_grown none = none
  fit_all_grown (more {v = v} {k = k} f h) = more (fits_grown v k f) (fit_all_grown h)

  pub object_grown : (o : Object) → ObjectFits p os o → ObjectFits p os' o
  object_grown o h =
      record {
        class_known = h.class_known;
        cells_count = h.cells_count;
        cells_fit = λ k l. fits_grown (get_or o.cells k (int (pos 0))) (field_of p o.class k) (h.cells_fit k l);
      }

-- what a class has of an ancestor's fields
pub record Has (p : Parts) (c d k : ℕ) : Type 0 where
  pub there : k < field_count p c
  pub alike : field_of p c k ≡ field_of p d k

has_parent : (p : Parts) → Keeps p → (c k : ℕ) → 0 < c → c < length p.classes → k < field_count p (parent_of p c) → Has p c (parent_of p c) k
has_parent p keeps c k z l h =
    let r = keeps.classes_keep c l in
    let e = r.extends z in
    record { there = omega arith; alike = r.inherits z k h }

has_ancestor : (p : Parts) → Keeps p → {c d : ℕ} (k : ℕ) → Ancestor p c d → k < field_count p d → Has p c d k
has_ancestor p keeps k (parent {c = c} z l) h = has_parent p keeps c k z l h
has_ancestor p keeps k (further {c = c} {d = d} z l a) h =
    let up = has_ancestor p keeps k a h in
    let here = has_parent p keeps c k z l up.there in
    record { there = here.there; alike = here.alike ∙ up.alike }

has_below : (p : Parts) → Keeps p → (c d k : ℕ) → Below p (Class c) (Class d) → k < field_count p d → Has p c d k
has_below p keeps c d k same h = record { there = h; alike = refl }
has_below p keeps c d k (ancestor a) h = has_ancestor p keeps k a h

-- a class has the fields of those that it lies below
pub inherited : (p : Parts) → Keeps p → (c d k : ℕ) → is_a p c d ≡ true → k < field_count p d → Has p c d k
inherited p keeps c d k a h = has_below p keeps c d k ((is_a_decides p (keeps_lower p keeps) c d).0 a) h
