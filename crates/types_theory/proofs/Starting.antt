-- The empty stack describes every start.
use Rattle.std.proofs.Common.{◌≡◌, ℕ, zero, suc, ◌-◌, ◌<◌, List, [], ◌∷◌, length, get_or, ℤ, pos, Some, None, Option, sym, refl, ◌∙◌, subst, arith}
use Rattle.std.proofs.lemmas.List.{length-replicate, get_or-replicate}
use Rattle.kinds.specs.declared.kind.Kind.{Kind}
use Rattle.kinds.specs.declared.kind.Kind.TheVariants.{Int, Null, Unusable, Class}
use Rattle.format.specs.Parts.{Parts, field_count, field_of, slot_of}
use Rattle.format.specs.Rules.{Keeps, Storable, IsClass}
use Rattle.format.proofs.Views.{length_tabulate, get_d_tabulate}
use Rattle.lattice.specs.Order.{Below, Lower}
use Rattle.lattice.proofs.Orders.{keeps_lower}
use Rattle.lattice.proofs.Computed.{is_a_decides}
use Rattle.machine.specs.Values.{Value, int, ref, Object, Vessel}
use Rattle.machine.specs.Step.{object_at}
use Rattle.machine.specs.Runs.{Announced, cell_as, vessel_object, start}
use Rattle.types_theory.specs.Description.{Fits, none, ObjectFits, Described}

cell_fits : (p : Parts) (os : List Object) (k : Kind) (z : ℤ) (n : ℕ) → Storable n k → Fits p os (cell_as k z) k
cell_fits p os Int z n h = record { conforming = refl; leading = tt }
cell_fits p os Null z n h = absurd h
cell_fits p os Unusable z n h = absurd h
cell_fits p os (Class c) z n h = record { conforming = refl; leading = tt }

vessel_fits : (p : Parts) → Keeps p → (v : Vessel) → Announced p v → (os : List Object) → ObjectFits p os (vessel_object p v)
vessel_fits p keeps v a os =
    let f : ℕ → Value = λ k. cell_as (field_of p v.class k) (get_or v.cells k (pos 0)) in
    record {
      class_known = a.known;
      cells_count = length_tabulate (field_count p v.class) f;
      cells_fit = λ k l.
          subst (λ (x : Value). Fits p os x (field_of p v.class k)) (sym (get_d_tabulate (field_count p v.class) f (int (pos 0)) k l))
          (cell_fits p os (field_of p v.class k) (get_or v.cells k (pos 0)) (length p.classes)
          ((keeps.classes_keep v.class a.known).storable k l));
    }

-- the vessel, the one object, fits the class of slot 0
takes_vessel : (p : Parts) → Lower p → (o : Object) (k : Kind) → IsClass k → Below p (Class o.class) k → Fits p (o ∷ []) (ref 1) k
takes_vessel p low o Int c h = absurd c
takes_vessel p low o Null c h = absurd c
takes_vessel p low o Unusable c h = absurd c
takes_vessel p low o (Class d) c h = record { conforming = (is_a_decides p low o.class d).1 h; leading = omega arith }

pub stack_start : (p : Parts) → Keeps p → (v : Vessel) → Announced p v → Described p [] (start p v)
stack_start p keeps v a =
    let low = keeps_lower p keeps in
    let o = vessel_object p v in
    record {
      operands_fit = none;
      slots_count =
          let e = length-replicate {A = Option Value} (length p.slots - 1) None in
          let s = keeps.some_slots in
          omega arith;
      slots_fit = slots;
      objects_fit = objects;
    }
  where
    slots : (i : ℕ) (w : Value) → i < length p.slots → get_or (start p v).slots i None ≡ Some w → Fits p (start p v).objects w (slot_of p i)
    slots zero w l e =
        let is : ref 1 ≡ w = grind arith in
        subst (λ (x : Value). Fits p (start p v).objects x (slot_of p 0)) is
        (takes_vessel p (keeps_lower p keeps) (vessel_object p v) (slot_of p 0) ((keeps.slots_keep 0 l).vessel refl) a.fitting)
    slots (suc i) w l e =
        let q : None ≡ Some w = sym (get_or-replicate (length p.slots - 1) i None None (omega arith)) ∙ e in
        absurd (grind arith)

    objects : (i : ℕ) → i < length (start p v).objects → ObjectFits p (start p v).objects (object_at (start p v).objects i)
    objects zero l = vessel_fits p keeps v a (start p v).objects
    objects (suc i) l = absurd (omega arith)
