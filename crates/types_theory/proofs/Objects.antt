-- Objects that are made or changed, and slots that are set, still fit.
use Rattle.std.proofs.Common.{◌≡◌, ℕ, ◌<◌, ◌≤◌, ◌≢◌, List, [], ◌∷◌, ◌++◌, length, get_or, set, pos, Some, None, Option, sym, refl, ap, ◌∙◌, subst, ⊎_elim, arith, length-append, length-set, get_or-set_other, get_or-set_same}
use lib.ListN.{length-map, get_or-map}
use lib.Seq.{get_or_at}
use Rattle.std.proofs.lemmas.List.{get_or_append_left}
use Rattle.std.proofs.lemmas.Bool.{cases_lt, cases_eq}
use Rattle.kinds.specs.declared.kind.Kind.{Kind}
use Rattle.kinds.specs.declared.kind.Kind.TheVariants.{Int, Null, Unusable, Class}
use Rattle.format.specs.Parts.{Parts, fields_of, field_count, field_of, slot_of}
use Rattle.format.specs.Rules.{Keeps, Storable}
use Rattle.machine.specs.Values.{Value, int, Object}
use Rattle.machine.specs.Conforming.{class_of_object}
use Rattle.machine.specs.Step.{blank, fresh, object_at}
use Rattle.types_theory.specs.Description.{Fits, ObjectFits}
use Rattle.types_theory.proofs.Fitting.{Grown, object_grown}

-- a field's first value fits its kind
blank_fits : (p : Parts) (os : List Object) (k : Kind) (n : ℕ) → Storable n k → Fits p os (blank k) k
blank_fits p os Int n h = record { conforming = refl; leading = tt }
blank_fits p os Null n h = absurd h
blank_fits p os Unusable n h = absurd h
blank_fits p os (Class c) n h = record { conforming = refl; leading = tt }

pub fresh_fits : (p : Parts) → Keeps p → (os : List Object) (c : ℕ) → c < length p.classes → ObjectFits p os (fresh p c)
fresh_fits p keeps os c l =
    record {
      class_known = l;
      cells_count = length-map (fields_of p c) blank;
      cells_fit = λ k h.
          subst (λ (v : Value). Fits p os v (field_of p c k)) (sym (get_or-map blank (fields_of p c) k Int))
          (blank_fits p os (field_of p c k) (length p.classes) ((keeps.classes_keep c l).storable k h));
    }

-- one object more
pub grown_new : (os : List Object) (o : Object) → Grown os (os ++ (o ∷ []))
grown_new os o =
    record {
      most = let e = length-append os (o ∷ []) in omega arith;
      classes = λ i l. ap (λ (x : Object). x.class) (get_or_append_left os (o ∷ []) (record { class = 0; cells = [] }) i l);
    }

pub last_object : (os : List Object) (o : Object) → object_at (os ++ (o ∷ [])) (length os) ≡ o
last_object os o = get_or_at os o [] (record { class = 0; cells = [] }) (length os) refl

pub objects_new : (p : Parts) (os : List Object) (o : Object) → ((i : ℕ) → i < length os → ObjectFits p os (object_at os i)) → ObjectFits p (os ++ (o ∷ [])) o → (i : ℕ) → i < length (os ++ (o ∷ [])) → ObjectFits p (os ++ (o ∷ [])) (object_at (os ++ (o ∷ [])) i)
objects_new p os o old new i l =
    let os' = os ++ (o ∷ []) in
    ⊎_elim
    (λ (h : i < length os).
    subst (ObjectFits p os') (sym (get_or_append_left os (o ∷ []) (record { class = 0; cells = [] }) i h))
    (object_grown p os os' (grown_new os o) (object_at os i) (old i h)))
    (λ (h : length os ≤ i).
    let e : length os ≡ i = let s = length-append os (o ∷ []) in omega arith in
    subst (λ (j : ℕ). ObjectFits p os' (object_at os' j)) e (subst (ObjectFits p os') (sym (last_object os o)) new))
    (cases_lt i (length os))

-- an object with a value in one of its cells
abbrev pub changed : Object → ℕ → Value → Object
changed o k v = record { class = o.class; cells = set o.cells k v }

pub changed_fits : (p : Parts) (os : List Object) (o : Object) (k : ℕ) (v : Value) → ObjectFits p os o → k < field_count p o.class → Fits p os v (field_of p o.class k) → ObjectFits p os (changed o k v)
changed_fits p os o k v h l f =
    record {
      class_known = h.class_known;
      cells_count = length-set o.cells k v ∙ h.cells_count;
      cells_fit = λ j m.
          ⊎_elim
          (λ (e : j ≡ k).
          let inside : k < length o.cells = let n = h.cells_count in omega arith in
          subst (λ (i : ℕ). Fits p os (get_or (set o.cells k v) i (int (pos 0))) (field_of p o.class i)) (sym e)
          (subst (λ (x : Value). Fits p os x (field_of p o.class k)) (sym (get_or-set_same o.cells k v (int (pos 0)) inside)) f))
          (λ (ne : j ≢ k).
          subst (λ (x : Value). Fits p os x (field_of p o.class j)) (sym (get_or-set_other o.cells k j v (int (pos 0)) ne)) (h.cells_fit j m))
          (cases_eq j k);
    }

-- one object in another's place, of the same class
module _ (p : Parts) (os : List Object) (i : ℕ) (o : Object) (inside : i < length os) (alike : o.class ≡ (object_at os i).class) where
  pub grown_set : Grown os (set os i o)
  grown_set =
      record {
        most = let e = length-set os i o in omega arith;
        classes = λ j l.
            ⊎_elim
            (λ (e : j ≡ i).
            subst (λ (k : ℕ). class_of_object (set os i o) k ≡ class_of_object os k) (sym e)
            (ap (λ (x : Object). x.class) (get_or-set_same os i o (record { class = 0; cells = [] }) inside) ∙ alike))
            (λ (ne : j ≢ i). ap (λ (x : Object). x.class) (get_or-set_other os i j o (record { class = 0; cells = [] }) ne))
            (cases_eq j i);
      }

  pub objects_set : ((j : ℕ) → j < length os → ObjectFits p os (object_at os j)) → ObjectFits p os o → (j : ℕ) → j < length (set os i o) → ObjectFits p (set os i o) (object_at (set os i o) j)
  objects_set old new j l =
      ⊎_elim
      (λ (e : j ≡ i).
      subst (λ (k : ℕ). ObjectFits p (set os i o) (object_at (set os i o) k)) (sym e)
      (subst (ObjectFits p (set os i o)) (sym (get_or-set_same os i o (record { class = 0; cells = [] }) inside))
      (object_grown p os (set os i o) grown_set o new)))
      (λ (ne : j ≢ i).
      subst (ObjectFits p (set os i o)) (sym (get_or-set_other os i j o (record { class = 0; cells = [] }) ne))
      (object_grown p os (set os i o) grown_set (object_at os j) (old j (let e = length-set os i o in omega arith))))
      (cases_eq j i)

-- a slot that is set
pub slots_set : (p : Parts) (os : List Object) (slots : List (Option Value)) (n : ℕ) (v : Value) → n < length slots → Fits p os v (slot_of p n) → ((i : ℕ) (w : Value) → i < length p.slots → get_or slots i None ≡ Some w → Fits p os w (slot_of p i)) → (i : ℕ) (w : Value) → i < length p.slots → get_or (set slots n (Some v)) i None ≡ Some w → Fits p os w (slot_of p i)
slots_set p os slots n v inside f old i w l e =
    ⊎_elim
    (λ (q : i ≡ n).
    let same : get_or (set slots n (Some v)) n None ≡ Some v = get_or-set_same slots n (Some v) None inside in
    let here : get_or (set slots n (Some v)) n None ≡ Some w = subst (λ (j : ℕ). get_or (set slots n (Some v)) j None ≡ Some w) q e in
    let is : v ≡ w = grind arith in
    subst (λ (j : ℕ). Fits p os w (slot_of p j)) (sym q) (subst (λ (x : Value). Fits p os x (slot_of p n)) is f))
    (λ (ne : i ≢ n). old i w l (sym (get_or-set_other slots n i (Some v) None ne) ∙ e))
    (cases_eq i n)
