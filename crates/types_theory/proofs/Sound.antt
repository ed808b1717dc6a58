-- Where a stack of kinds describes a configuration and an instruction is accepted, the step meets neither fault 1, 2 nor 3, and
-- the stack after it describes a run that goes on.
use Rattle.std.proofs.Common.{◌≡◌, ℕ, zero, suc, ◌+◌, ◌/◌, ◌%◌, ◌<◌, ◌≤◌, Bool, true, false, cond, eqb, ltb, leb, List, [], ◌∷◌, ◌++◌, length, get_or, set, ℤ, pos, ◌+ℤ◌, Some, None, Ok, Err, Option, sym, refl, ap, ◌∙◌, subst, arith, length-append, length-set, w16, w32, to_z, ltb-true}
use lib.Signed.{lt_z}
use Rattle.std.specs.Int.{int_wrap}
use Rattle.kinds.specs.declared.kind.Kind.{Kind}
use Rattle.kinds.specs.declared.kind.Kind.TheVariants.{Int, Null, Class}
use Rattle.opcodes.specs.declared.opcode.Opcode.{Opcode}
use Rattle.opcodes.specs.declared.opcode.Opcode.TheVariants.{Push, Nil, Load, Store, Drop, Add, Less, Jump, Branch, Brnull, New, Get, Put, Post, Return}
use Rattle.opcodes.specs.declared.opcode.Shape.{Shape}
use Rattle.opcodes.specs.declared.opcode.Shape.TheVariants.{Int as AnInt, Null as ANull, Ref as ARef, Any as AnyValue, OfSlot, OfClass, OfOwner, OfField}
use Rattle.opcodes.specs.declared.opcode.Takes.TheVariants.{One, Two}
use Rattle.opcodes.specs.Table.{line_of}
use Rattle.format.specs.Parts.{Parts, field_count, field_of, slot_of, instruction_of}
use Rattle.format.specs.Rules.{Keeps, Names}
use Rattle.lattice.specs.Order.{Lower}
use Rattle.lattice.specs.Computing.{is_a}
use Rattle.lattice.proofs.Orders.{keeps_lower}
use Rattle.machine.specs.Values.{Value, int, ref, Object}
use Rattle.machine.specs.Conforming.{conforms, class_of_object}
use Rattle.machine.specs.Configuration.{Configuration, Outcome, stopped, fault}
use Rattle.machine.specs.Step.{Found, took, finds, does, step, next, allowed, goes_at, loads, posts, ends, gets, puts, reference, number, is_zero, with_slot, with_objects, with_row, fresh, object_at}
use Rattle.machine.proofs.Expected.{either_expected, shallow_expected}
use Rattle.analysis_theory.specs.declared.fault.Cause.TheVariants.{Outside}
use Rattle.analysis_theory.specs.Laws.{Allowed}
use Rattle.types_theory.specs.Effect.{taken, left, type_fault, then_leaves, effect_of, effect_made_at}
use Rattle.types_theory.specs.Description.{Fits, FitAll, more, ObjectFits, Described}
use Rattle.types_theory.specs.Types.{types_meaning}
use Rattle.types_theory.proofs.KindOrder.{lies_same}
use Rattle.types_theory.proofs.Effects.{test_passed}
use Rattle.types_theory.proofs.Fitting.{fit_length, Grown, fits_grown, fit_all_grown, Has, inherited}
use Rattle.types_theory.proofs.Objects.{fresh_fits, grown_new, last_object, objects_new, changed, changed_fits, grown_set, objects_set, slots_set}
use Rattle.types_theory.proofs.Taking.{accepted, Operand, take_one_sound, take_two}

int_fits : (p : Parts) (os : List Object) (z : ℤ) → Fits p os (int z) Int
int_fits p os z = record { conforming = refl; leading = tt }

-- the configuration with other operands is described by the kinds that they fit
moves : (p : Parts) (ks ls : List Kind) (c : Configuration) (i : ℕ) (vs : List Value) → Described p ks c → FitAll p c.objects vs ls → Described p ls (goes_at c i vs)
moves p ks ls c i vs d f =
    record { operands_fit = f; slots_count = d.slots_count; slots_fit = d.slots_fit; objects_fit = d.objects_fit }

-- a run that is described and shallow passes the check of the depth
goes_on : (p : Parts) (ls : List Kind) (c : Configuration) → length ls ≤ p.depth → Described p ls c → Allowed (types_meaning p) ls (allowed p c)
goes_on p ls c l d =
    shallow_expected (Described p ls) (λ f. (types_meaning p).forbids f ≡ false) p c
    (subst (λ (n : ℕ). n ≤ p.depth) (sym (fit_length p c.objects d.operands_fit)) l) d

-- with other objects, of the same classes as far as there were any
regrown : (p : Parts) (ks ls : List Kind) (c : Configuration) (os : List Object) (i : ℕ) (vs : List Value) → Grown c.objects os → ((j : ℕ) → j < length os → ObjectFits p os (object_at os j)) → Described p ks c → FitAll p os vs ls → Described p ls (goes_at (with_objects c os) i vs)
regrown p ks ls c os i vs g objects d f =
    record {
      operands_fit = f;
      slots_count = d.slots_count;
      slots_fit = λ j v l e. fits_grown p c.objects os g v (slot_of p j) (d.slots_fit j v l e);
      objects_fit = objects;
    }

module _ (p : Parts) (keeps : Keeps p) (c : Configuration) (n : ℕ) (ks : List Kind) (d : Described p ks c) where
  abbrev Good : List Kind → Outcome → Type 0
  Good ls o = Allowed (types_meaning p) ls o

  abbrev objects : List Object
  objects = c.objects

  low : Lower p
  low = keeps_lower p keeps

  -- goes on at the next instruction, or at another, with operands that fit
  onward : (ls : List Kind) (vs : List Value) → length ls ≤ p.depth → FitAll p objects vs ls → Good ls (next p c vs)
  onward ls vs l f = goes_on p ls (goes_at c (c.at + 1) vs) l (moves p ks ls c (c.at + 1) vs d f)

  away : (ls : List Kind) (vs : List Value) → length ls ≤ p.depth → FitAll p objects vs ls → Good ls (allowed p (goes_at c n vs))
  away ls vs l f = goes_on p ls (goes_at c n vs) l (moves p ks ls c n vs d f)

  -- two ways with the same operands
  either : (ls : List Kind) (b : Bool) (x y : Outcome) → Good ls x → Good ls y → Good ls (cond b x y)
  either ls b x y = either_expected (Described p ls) (λ f. (types_meaning p).forbids f ≡ false) b x y

  loads_good : (rest : List Kind) (vs : List Value) (o : Option Value) → n < length p.slots → get_or c.slots n None ≡ o → length (slot_of p n ∷ rest) ≤ p.depth → FitAll p objects vs rest → Good (slot_of p n ∷ rest) (loads p c vs o)
  loads_good rest vs None l e s f = refl
  loads_good rest vs (Some v) l e s f = onward (slot_of p n ∷ rest) (v ∷ vs) s (more (d.slots_fit n v l e) f)

  stores_good : (rest : List Kind) (v : Value) (vs : List Value) → n < length p.slots → Fits p objects v (slot_of p n) → length rest ≤ p.depth → FitAll p objects vs rest → Good rest (next p (with_slot c n v) vs)
  stores_good rest v vs l h s f =
      goes_on p rest (goes_at (with_slot c n v) (c.at + 1) vs) s
      (record {
        operands_fit = f;
        slots_count = length-set c.slots n (Some v) ∙ d.slots_count;
        slots_fit = slots_set p objects c.slots n v (let e = d.slots_count in omega arith) h d.slots_fit;
        objects_fit = d.objects_fit;
      })

  new_good : (rest : List Kind) (vs : List Value) → n < length p.classes → length (Class n ∷ rest) ≤ p.depth → FitAll p objects vs rest → Good (Class n ∷ rest) (next p (with_objects c (objects ++ (fresh p n ∷ []))) (ref (length objects + 1) ∷ vs))
  new_good rest vs l s f =
      let os = objects ++ (fresh p n ∷ []) in
      let g = grown_new objects (fresh p n) in
      let is_last : class_of_object os (length objects) ≡ n = ap (λ (o : Object). o.class) (last_object objects (fresh p n)) in
      let made : Fits p os (ref (suc (length objects))) (Class n) =
      record {
        conforming = subst (λ (k : ℕ). is_a p k n ≡ true) (sym is_last) (lies_same p low (Class n));
        leading = let e = length-append objects (fresh p n ∷ []) in omega arith;
      } in
      let top-fits : Fits p os (ref (length objects + 1)) (Class n) = subst (λ (k : ℕ). Fits p os (ref k) (Class n)) (omega arith) made in
      goes_on p (Class n ∷ rest) (goes_at (with_objects c os) (c.at + 1) (ref (length objects + 1) ∷ vs)) s
      (regrown p ks (Class n ∷ rest) c os (c.at + 1) (ref (length objects + 1) ∷ vs) g
      (objects_new p objects (fresh p n) d.objects_fit (fresh_fits p keeps os n l)) d (more top-fits (fit_all_grown p objects os g f)))

  -- the object that an owner leads to has the field that is named
  owned : (i : ℕ) → conforms p objects (ref (suc i)) (Class (n / 8)) ≡ true → n % 8 < field_count p (n / 8) → Has p (object_at objects i).class (n / 8) (n % 8)
  owned i h l = inherited p keeps (object_at objects i).class (n / 8) (n % 8) h l

  gets_good : (rest : List Kind) (v : Value) (vs : List Value) → Operand p objects n OfOwner v → n % 8 < field_count p (n / 8) → length (field_of p (n / 8) (n % 8) ∷ rest) ≤ p.depth → FitAll p objects vs rest → Good (field_of p (n / 8) (n % 8) ∷ rest) (gets p c n vs (reference v))
  gets_good rest (int z) vs o l s f = tt
  gets_good rest (ref zero) vs o l s f = tt
  gets_good rest (ref (suc i)) vs o l s f =
      let h = owned i o.met l in
      let object = object_at objects i in
      let value = get_or object.cells (n % 8) (int (pos 0)) in
      onward (field_of p (n / 8) (n % 8) ∷ rest) (value ∷ vs) s
      (more (subst (Fits p objects value) h.alike ((d.objects_fit i o.leading).cells_fit (n % 8) h.there)) f)

  puts_good : (rest : List Kind) (v w : Value) (vs : List Value) → Operand p objects n OfField v → Operand p objects n OfOwner w → n % 8 < field_count p (n / 8) → length rest ≤ p.depth → FitAll p objects vs rest → Good rest (puts p c n vs v (reference w))
  puts_good rest v (int z) vs x o l s f = tt
  puts_good rest v (ref zero) vs x o l s f = tt
  puts_good rest v (ref (suc i)) vs x o l s f =
      let h = owned i o.met l in
      let object = object_at objects i in
      let value : Fits p objects v (field_of p object.class (n % 8)) =
      subst (Fits p objects v) (sym h.alike) (record { conforming = x.met; leading = x.leading }) in
      let new = changed object (n % 8) v in
      let os = set objects i new in
      let g = grown_set p objects i new o.leading refl in
      goes_on p rest (goes_at (with_objects c os) (c.at + 1) vs) s
      (regrown p ks rest c os (c.at + 1) vs g
      (objects_set p objects i new o.leading refl d.objects_fit (changed_fits p objects object (n % 8) v (d.objects_fit i o.leading) h.there value))
      d (fit_all_grown p objects os g f))

  posts_good : (rest : List Kind) (vs : List Value) (z : ℤ) (r : Option ℤ) → length rest ≤ p.depth → FitAll p objects vs rest → Good rest (posts p c vs z r)
  posts_good rest vs z None s f =
      goes_on p rest (goes_at (with_row c z) (c.at + 1) vs) s
      (record { operands_fit = f; slots_count = d.slots_count; slots_fit = d.slots_fit; objects_fit = d.objects_fit })
  posts_good rest vs z (Some b) s f = refl

  ends_good : (ls : List Kind) (r : Option ℤ) → Good ls (ends r)
  ends_good ls None = refl
  ends_good ls (Some b) = tt

  -- an instruction by what it takes and leaves, where the machine takes as much
  abbrev Does : Opcode → List Kind → Found → Type 0
  Does o ls f = Good ls (does p c o n f)

  -- of an instruction that takes nothing
  with_nothing : (s : Option Shape) (ls : List Kind) (x : Outcome) → then_leaves p n s (Ok ks) ≡ Ok ls → (length (left p n s ks) ≤ p.depth → Good (left p n s ks) x) → Good ls x
  with_nothing s ls x e h =
      let a = accepted p n s (Ok ks) ls e in
      let q : ks ≡ a.rest = let t = a.took_rest in grind arith in
      let is : left p n s ks ≡ ls = ap (left p n s) q ∙ a.is_left in
      subst (λ (js : List Kind). Good js x) is (h (subst (λ (js : List Kind). length js ≤ p.depth) (sym is) a.is_shallow))

  -- of one that takes one operand
  with_one : (o : Opcode) (a : Shape) (s : Option Shape) (ls : List Kind) → then_leaves p n s (taken p n (One a) ks) ≡ Ok ls → ((v : Value) (vs : List Value) (rest : List Kind) → Operand p objects n a v → FitAll p objects vs rest → length (left p n s rest) ≤ p.depth → Does o (left p n s rest) (took (v ∷ []) vs)) → Does o ls (finds p objects n (One a) c.operands)
  with_one o a s ls e h =
      let x = accepted p n s (taken p n (One a) ks) ls e in
      take_one_sound p low objects n (Does o ls) a x.rest d.operands_fit x.took_rest
      (λ v vs u f.
      subst (λ (js : List Kind). Does o js (took (v ∷ []) vs)) x.is_left
      (h v vs x.rest u f (subst (λ (js : List Kind). length js ≤ p.depth) (sym x.is_left) x.is_shallow)))

  -- of one that takes two
  with_two : (o : Opcode) (a b : Shape) (s : Option Shape) (ls : List Kind) → then_leaves p n s (taken p n (Two a b) ks) ≡ Ok ls → ((v w : Value) (vs : List Value) (rest : List Kind) → Operand p objects n b v → Operand p objects n a w → FitAll p objects vs rest → length (left p n s rest) ≤ p.depth → Does o (left p n s rest) (took (v ∷ w ∷ []) vs)) → Does o ls (finds p objects n (Two a b) c.operands)
  with_two o a b s ls e h =
      let x = accepted p n s (taken p n (Two a b) ks) ls e in
      take_two p low objects n (Does o ls) a b x.rest d.operands_fit x.took_rest
      (λ v w vs t u f.
      subst (λ (js : List Kind). Does o js (took (v ∷ w ∷ []) vs)) x.is_left
      (h v w vs x.rest t u f (subst (λ (js : List Kind). length js ≤ p.depth) (sym x.is_left) x.is_shallow)))

  pub does_good : (o : Opcode) (ls : List Kind) → Names p (line_of o).sort n → then_leaves p n (line_of o).leaves (taken p n (line_of o).takes ks) ≡ Ok ls → Does o ls (finds p objects n (line_of o).takes c.operands)
  does_good Push ls w e =
      with_nothing (Some AnInt) ls (next p c (int (to_z w16 n) ∷ c.operands)) e
      (λ s. onward (Int ∷ ks) (int (to_z w16 n) ∷ c.operands) s (more (int_fits p objects (to_z w16 n)) d.operands_fit))
  does_good Nil ls w e =
      with_nothing (Some ANull) ls (next p c (ref 0 ∷ c.operands)) e
      (λ s. onward (Null ∷ ks) (ref 0 ∷ c.operands) s (more (record { conforming = refl; leading = tt }) d.operands_fit))
  does_good Load ls w e =
      with_nothing (Some OfSlot) ls (loads p c c.operands (get_or c.slots n None)) e
      (λ s. loads_good ks c.operands (get_or c.slots n None) w refl s d.operands_fit)
  does_good Store ls w e =
      with_one Store OfSlot None ls e
      (λ v vs rest o f s. stores_good rest v vs w (record { conforming = o.met; leading = o.leading }) s f)
  does_good Drop ls w e = with_one Drop AnyValue None ls e (λ v vs rest o f s. onward rest vs s f)
  does_good Add ls w e =
      with_two Add AnInt AnInt (Some AnInt) ls e
      (λ v u vs rest x y f s.
      onward (Int ∷ rest) (int (int_wrap w32 (number u +ℤ number v)) ∷ vs) s (more (int_fits p objects (int_wrap w32 (number u +ℤ number v))) f))
  does_good Less ls w e =
      with_two Less AnInt AnInt (Some AnInt) ls e
      (λ v u vs rest x y f s.
      onward (Int ∷ rest) (int (cond (lt_z (number u) (number v)) (pos 1) (pos 0)) ∷ vs) s
      (more (int_fits p objects (cond (lt_z (number u) (number v)) (pos 1) (pos 0))) f))
  does_good Jump ls w e =
      with_nothing None ls (allowed p (goes_at c n c.operands)) e (λ s. away ks c.operands s d.operands_fit)
  does_good Branch ls w e =
      with_one Branch AnInt None ls e
      (λ v vs rest o f s.
      either rest (is_zero (number v)) (next p c vs) (allowed p (goes_at c n vs)) (onward rest vs s f) (away rest vs s f))
  does_good Brnull ls w e =
      with_one Brnull ARef None ls e
      (λ v vs rest o f s.
      either rest (eqb (reference v) 0) (allowed p (goes_at c n vs)) (next p c vs) (away rest vs s f) (onward rest vs s f))
  does_good New ls w e =
      with_nothing (Some OfClass) ls
      (cond (leb 32 (length objects)) (stopped 2) (next p (with_objects c (objects ++ (fresh p n ∷ []))) (ref (length objects + 1) ∷ c.operands))) e
      (λ s.
      either (Class n ∷ ks) (leb 32 (length objects)) (stopped 2)
      (next p (with_objects c (objects ++ (fresh p n ∷ []))) (ref (length objects + 1) ∷ c.operands)) tt
      (new_good ks c.operands w s d.operands_fit))
  does_good Get ls w e = with_one Get OfOwner (Some OfField) ls e (λ v vs rest o f s. gets_good rest v vs o w.1 s f)
  does_good Put ls w e = with_two Put OfOwner OfField None ls e (λ v u vs rest x y f s. puts_good rest v u vs x y w.1 s f)
  does_good Post ls w e = with_one Post AnInt None ls e (λ v vs rest o f s. posts_good rest vs (number v) c.row s f)
  does_good Return ls w e = with_nothing None ls (ends c.row) e (λ s. ends_good ks c.row)

-- the law that types owe
pub stack_safe : (p : Parts) → Keeps p → (ks ls : List Kind) (c : Configuration) → Described p ks c → effect_made_at p c.at ks ≡ Ok ls → Allowed (types_meaning p) ls (step p c)
stack_safe p keeps ks ls c d e =
    let x = instruction_of p c.at in
    let u = test_passed (ltb c.at (length p.code)) (effect_of p x ks) (Err (type_fault Outside)) (type_fault Outside) ls refl e in
    let f = finds p c.objects x.operand (line_of x.opcode).takes c.operands in
    subst (λ (b : Bool). Allowed (types_meaning p) ls (cond b (does p c x.opcode x.operand f) (fault 7))) (sym u.0)
    (does_good p keeps c x.operand ks d x.opcode ls (keeps.code_keeps c.at (ltb-true _ _ u.0)) u.1)
