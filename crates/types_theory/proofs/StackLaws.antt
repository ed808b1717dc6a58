-- The analysis of types keeps the laws.
use Rattle.std.proofs.Common.{◌≡◌, ℕ, ◌/◌, ◌%◌, Bool, true, false, cond, ◌&&◌, ltb, leb, List, [], ◌∷◌, length, Some, Ok, Err, Option, Result, refl, subst, arith, ltb-true, lt-ltb, eq-eqb, le-leb, leb-true}
use Rattle.std.proofs.lemmas.Bool.{and_from, and_parts}
use Rattle.kinds.specs.declared.kind.Kind.{Kind}
use Rattle.kinds.specs.declared.kind.Kind.TheVariants.{Int, Null, Unusable, Class}
use Rattle.opcodes.specs.declared.opcode.Opcode.{Opcode}
use Rattle.opcodes.specs.declared.opcode.Opcode.TheVariants.{Push, Nil, Load, Store, Drop, Add, Less, Jump, Branch, Brnull, New, Get, Put, Post, Return}
use Rattle.opcodes.specs.declared.opcode.Shape.{Shape}
use Rattle.opcodes.specs.declared.opcode.Takes.{Takes}
use Rattle.opcodes.specs.declared.opcode.Takes.TheVariants.{Nothing, One, Two}
use Rattle.opcodes.specs.Table.{line_of}
use Rattle.format.specs.Parts.{Parts, slot_of, field_of, instruction_of}
use Rattle.format.specs.Rules.{Keeps, Names, Storable}
use Rattle.lattice.specs.Order.{Lower}
use Rattle.lattice.proofs.Orders.{keeps_lower}
use Rattle.analysis_theory.specs.declared.fault.Cause.{Cause}
use Rattle.analysis_theory.specs.declared.fault.Cause.TheVariants.{TooDeep, Misfit, Outside}
use Rattle.analysis_theory.specs.declared.fault.Fault.{Fault}
use Rattle.analysis_theory.specs.Laws.{Laws}
use Rattle.types_theory.specs.Order.{known, all_known, joined_kinds}
use Rattle.types_theory.specs.Effect.{suits, taken, left, type_fault, then_leaves, effect_of, effect_made_at}
use Rattle.types_theory.specs.Types.{types_meaning}
use Rattle.types_theory.proofs.Stacks.{is_below, below_is, below_length, is_join, join_refused, stack_same, stack_further, stack_both, stack_falls, join_left, join_right, join_least, join_known}
use Rattle.types_theory.proofs.Effects.{test_passed, effect_below}
use Rattle.types_theory.proofs.Fitting.{fit_all_above}
use Rattle.types_theory.proofs.Taking.{accepted}
use Rattle.types_theory.proofs.Sound.{stack_safe}
use Rattle.types_theory.proofs.Codes.{stack_bytes_are, stack_read_back, stack_reads_only, refused_layer}
use Rattle.types_theory.proofs.Starting.{stack_start}

-- what a slot or a field may hold, the unit has
storable_known : (p : Parts) (k : Kind) → Storable (length p.classes) k → known p k ≡ true
storable_known p Int h = refl
storable_known p Null h = absurd h
storable_known p Unusable h = absurd h
storable_known p (Class c) h = lt-ltb c (length p.classes) h

taken_known : (p : Parts) (n : ℕ) (t : Takes) (ks rest : List Kind) → all_known p ks ≡ true → taken p n t ks ≡ Ok rest → all_known p rest ≡ true
taken_known p n Nothing ks rest h e = let q : ks ≡ rest = grind arith in subst (λ (js : List Kind). all_known p js ≡ true) q h
taken_known p n (One a) [] rest h e = absurd (grind arith)
taken_known p n (One a) (k ∷ ks) rest h e =
    let u = test_passed (suits p n a k) (Ok ks) (Err (Misfit 0)) (Misfit 0) rest refl e in
    let q : ks ≡ rest = grind arith in
    subst (λ (js : List Kind). all_known p js ≡ true) q (and_parts (known p k) (all_known p ks) h).1
taken_known p n (Two a b) [] rest h e = absurd (grind arith)
taken_known p n (Two a b) (k ∷ []) rest h e = absurd (grind arith)
taken_known p n (Two a b) (k ∷ j ∷ ks) rest h e =
    let u = test_passed (suits p n b k) (cond (suits p n a j) (Ok ks) (Err (Misfit 1))) (Err (Misfit 0)) (Misfit 0) rest refl e in
    let v = test_passed (suits p n a j) (Ok ks) (Err (Misfit 1)) (Misfit 1) rest refl u.1 in
    let w = and_parts (known p k) (known p j && all_known p ks) h in
    let q : ks ≡ rest = grind arith in
    subst (λ (js : List Kind). all_known p js ≡ true) q (and_parts (known p j) (all_known p ks) w.1).1

-- what an instruction leaves, the unit has
left_known : (p : Parts) → Keeps p → (o : Opcode) (n : ℕ) (ks : List Kind) → Names p (line_of o).sort n → all_known p ks ≡ true → all_known p (left p n (line_of o).leaves ks) ≡ true
left_known p keeps Push n ks w h = h
left_known p keeps Nil n ks w h = h
left_known p keeps Load n ks w h = and_from _ _ (storable_known p (slot_of p n) (keeps.slots_keep n w).storable) h
left_known p keeps Store n ks w h = h
left_known p keeps Drop n ks w h = h
left_known p keeps Add n ks w h = h
left_known p keeps Less n ks w h = h
left_known p keeps Jump n ks w h = h
left_known p keeps Branch n ks w h = h
left_known p keeps Brnull n ks w h = h
left_known p keeps New n ks w h = and_from _ _ (lt-ltb n (length p.classes) w) h
left_known p keeps Get n ks w h =
    and_from _ _ (storable_known p (field_of p (n / 8) (n % 8)) ((keeps.classes_keep (n / 8) w.0).storable (n % 8) w.1)) h
left_known p keeps Put n ks w h = h
left_known p keeps Post n ks w h = h
left_known p keeps Return n ks w h = h

abbrev IsStack : Parts → List Kind → Type 0
IsStack p ks = (leb (length ks) p.depth && all_known p ks) ≡ true

after_is_stack : (p : Parts) → Keeps p → (i : ℕ) (ks ls : List Kind) → IsStack p ks → effect_made_at p i ks ≡ Ok ls → IsStack p ls
after_is_stack p keeps i ks ls h e =
    let x = instruction_of p i in
    let u = test_passed (ltb i (length p.code)) (effect_of p x ks) (Err (type_fault Outside)) (type_fault Outside) ls refl e in
    let a = accepted p x.operand (line_of x.opcode).leaves (taken p x.operand (line_of x.opcode).takes ks) ls u.1 in
    let k = taken_known p x.operand (line_of x.opcode).takes ks a.rest (and_parts (leb (length ks) p.depth) (all_known p ks) h).1 a.took_rest in
    let names = keeps.code_keeps i (ltb-true _ _ u.0) in
    and_from _ _ (le-leb (length ls) p.depth a.is_shallow)
    (subst (λ (js : List Kind). all_known p js ≡ true) a.is_left (left_known p keeps x.opcode x.operand a.rest names k))

join_is_stack : (p : Parts) → Keeps p → (ks js ls : List Kind) → IsStack p ks → IsStack p js → joined_kinds p ks js ≡ Some ls → IsStack p ls
join_is_stack p keeps ks js ls h k e =
    let low = keeps_lower p keeps in
    let j = is_join p ks js ls e in
    let u = and_parts (leb (length ks) p.depth) (all_known p ks) h in
    let v = and_parts (leb (length js) p.depth) (all_known p js) k in
    and_from _ _ (subst (λ (n : ℕ). leb n p.depth ≡ true) (below_length p (join_left p low j)) u.0) (join_known p low j u.1 v.1)

-- every fault of types is of layer 1
fault_is_types : (p : Parts) (n : ℕ) (s : Option Shape) (r : Result (List Kind) Cause) (f : Fault) → then_leaves p n s r ≡ Err f → f.layer ≡ 1
fault_is_types p n s (Ok ks) f e = go (leb (length (left p n s ks)) p.depth) e
  where
    go : (b : Bool) → ◌≡◌ {A = Result (List Kind) Fault} (cond b (Ok (left p n s ks)) (Err (type_fault TooDeep))) (Err f) → f.layer ≡ 1
    go true h = absurd (grind arith)
    go false h = grind arith
fault_is_types p n s (Err c) f e = grind arith

effect_fault : (p : Parts) (i : ℕ) (ks : List Kind) (f : Fault) → effect_made_at p i ks ≡ Err f → f.layer ≡ 1
effect_fault p i ks f e = go (ltb i (length p.code)) e
  where
    go : (b : Bool) → ◌≡◌ {A = Result (List Kind) Fault} (cond b (effect_of p (instruction_of p i) ks) (Err (type_fault Outside))) (Err f) → f.layer ≡ 1
    go true h =
        fault_is_types p (instruction_of p i).operand (line_of (instruction_of p i).opcode).leaves
        (taken p (instruction_of p i).operand (line_of (instruction_of p i).opcode).takes ks) f h
    go false h = grind arith

module _ (p : Parts) (keeps : Keeps p) where
  low : Lower p
  low = keeps_lower p keeps

  pub types_laws : Laws p (types_meaning p)
  types_laws = record {
    start_is_state = and_from _ _ (le-leb 0 p.depth (omega arith)) refl;
    after_is_state = after_is_stack p keeps;
    join_is_state = join_is_stack p keeps;
    reflexive = λ a h. below_is p (stack_same p low a);
    transitive = λ a b c h k m e f. below_is p (stack_further p low (is_below p a b e) (is_below p b c f));
    antisymmetric = λ a b h k e f. stack_both p low (is_below p a b e) (is_below p b a f);
    above_left = λ a b c h k e. below_is p (join_left p low (is_join p a b c e));
    above_right = λ a b c h k e. below_is p (join_right p low (is_join p a b c e));
    least = λ a b c d h k m e f g. below_is p (join_least p low (is_join p a b c e) (is_below p a d f) (is_below p b d g));
    refused = λ a b d h k m e f g. join_refused p a b e (is_below p a d f) (is_below p b d g);
    falls = λ a b h k e. stack_falls p low (is_below p a b e);
    monotone = λ i a b d h k e f. effect_below p low i a b d e f;
    describes_start = stack_start p keeps;
    describes_above = λ a b c h k e f.
        record {
          operands_fit = fit_all_above p low c.objects (is_below p a b e) f.operands_fit;
          slots_count = f.slots_count;
          slots_fit = f.slots_fit;
          objects_fit = f.objects_fit;
        };
    safe = λ s t c h d e. stack_safe p keeps s t c d e;
    writes_bytes = λ s h. let u = and_parts (leb (length s) p.depth) (all_known p s) h in stack_bytes_are p keeps s (leb-true _ _ u.0) u.1;
    reads_back = λ s rest h. let u = and_parts (leb (length s) p.depth) (all_known p s) h in stack_read_back p keeps s rest (leb-true _ _ u.0) u.1;
    reads_only = λ bs g a e. let r = stack_reads_only p bs g a e in (r.is_a_state, r.size, r.front);
    layers_from_1 = refl;
    fault_layer = λ i s f e. eq-eqb f.layer 1 (effect_fault p i s f e);
    refusal_layer = λ bs u e. eq-eqb u.layer 1 (refused_layer p bs u e);
  }
