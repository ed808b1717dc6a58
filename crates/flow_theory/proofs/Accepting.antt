-- An accepting walk holds a stable typing.
use Rattle.std.proofs.Common.{◌≡◌, ℕ, zero, suc, ◌+◌, ◌<◌, ◌≤◌, Bool, true, false, cond, ltb, length, Some, None, Ok, Err, Option, Result, sym, refl, ap, ◌∙◌, subst, arith, ltb-true, lt-ltb}
use Rattle.opcodes.specs.TableRule.{jumps}
use Rattle.format.specs.Parts.{Parts, instruction_of}
use Rattle.machine.specs.Ways.{Leads, next, jump, passes}
use Rattle.analysis_theory.specs.declared.fault.Fault.{Fault}
use Rattle.analysis_theory.specs.Meaning.{Meaning}
use Rattle.analysis_theory.specs.Laws.{Laws, Accepts}
use Rattle.analysis_theory.specs.Typing.{Typing, HoldsAbove, Starts, rule, Stable}
use Rattle.flow_theory.specs.declared.flow.FlowFault.{FlowFault}
use Rattle.flow_theory.specs.declared.flow.FlowFault.TheVariants.{NotBelow, Leaves}
use Rattle.flow_theory.specs.Walk.{sender_of, ways_at, holds, arrives, jump_to, jumped, onward, and_then, visited, passed_over, turn, after_turn, walk_from, walk}
use Rattle.flow_theory.specs.Held.{or_nothing, arriving, held}
use Rattle.flow_theory.proofs.Tests.{test_passed}

-- what an accepted step tells
both_ok : {X Y : Type 0} (x : Result X FlowFault) (y : Result Y FlowFault) (a : Y) → and_then x y ≡ Ok a → ((b : X) × (x ≡ Ok b)) × (y ≡ Ok a)
both_ok (Ok b) y a e = ((b, refl), e)
both_ok (Err f) y a e = absurd (grind arith)

turn_ok : {S : Type 0} (r : Result (Option S) FlowFault) (rest : Option S → Result (Unit {0}) FlowFault) → after_turn r rest ≡ Ok tt → (r ≡ Ok (or_nothing r)) × (rest (or_nothing r) ≡ Ok tt)
turn_ok (Ok a) rest e = (refl, e)
turn_ok (Err f) rest e = absurd (grind arith)

module _ {S : Type 0} (p : Parts) (m : Meaning S) (entries : Typing S) where
  -- the turn at i was accepted
  abbrev Went : ℕ → Type 0
  Went i = turn p m entries i (arriving p m entries i) ≡ Ok (arriving p m entries (suc i))

  went : (n i : ℕ) → walk_from p m entries n i (arriving p m entries i) ≡ Ok tt → (k : ℕ) → k < n → Went (i + k)
  went zero i e k l = absurd (omega arith)
  went (suc n) i e zero l =
      let u = turn_ok (turn p m entries i (arriving p m entries i)) (λ a. walk_from p m entries n (i + 1) a) e in
      subst Went (let q : i ≡ i + 0 = omega arith in q) u.0
  went (suc n) i e (suc k) l =
      let u = turn_ok (turn p m entries i (arriving p m entries i)) (λ a. walk_from p m entries n (i + 1) a) e in
      let q : suc i ≡ i + 1 = omega arith in
      let rest : walk_from p m entries n (i + 1) (arriving p m entries (i + 1)) ≡ Ok tt =
      subst (λ (j : ℕ). walk_from p m entries n (i + 1) (arriving p m entries j) ≡ Ok tt) q u.1 in
      subst Went (let r : i + 1 + k ≡ i + suc k = omega arith in r) (went n (i + 1) rest k (omega arith))

  pub all_went : walk p m entries ≡ Ok tt → (i : ℕ) → i < length p.code → Went i
  all_went e i l = subst Went (let q : 0 + i ≡ i = omega arith in q) (went (length p.code) 0 e i l)

  -- what an accepted turn tells of the state that is held
  record Turned (i : ℕ) (s : S) : Type 0 where
    after : S
    accepted : m.after i s ≡ Ok after
    jumps_well : jumped p m entries i after ≡ Ok tt
    goes_on : onward p i after ≡ Ok (arriving p m entries (suc i))

  visit_ok : (i : ℕ) (s : S) (r : Result S Fault) → m.after i s ≡ r → visited p m entries i r ≡ Ok (arriving p m entries (suc i)) → Turned i s
  visit_ok i s (Ok t) q e =
      let u = both_ok (jumped p m entries i t) (onward p i t) (arriving p m entries (suc i)) e in
      record { after = t; accepted = q; jumps_well = u.0.1; goes_on = u.1 }
  visit_ok i s (Err f) q e = absurd (grind arith)

  turned : (i : ℕ) (s : S) → Went i → holds (entries i) (arriving p m entries i) ≡ Some s → Turned i s
  turned i s w h =
      let u = test_passed (arrives m (entries i) (arriving p m entries i)) (passed_over p m entries i (holds (entries i) (arriving p m entries i))) (NotBelow i (sender_of i)) (arriving p m entries (suc i)) w in
      visit_ok i s (m.after i s) refl
      (subst (λ (o : Option S). passed_over p m entries i o ≡ Ok (arriving p m entries (suc i))) h u.1)

  arrived : (i : ℕ) → Went i → arrives m (entries i) (arriving p m entries i) ≡ true
  arrived i w = (test_passed (arrives m (entries i) (arriving p m entries i)) (passed_over p m entries i (holds (entries i) (arriving p m entries i))) (NotBelow i (sender_of i)) (arriving p m entries (suc i)) w).0

  held_is : (i : ℕ) → i < length p.code → held p m entries i ≡ holds (entries i) (arriving p m entries i)
  held_is i l = rw (lt-ltb i (length p.code) l) refl

module _ {S : Type 0} {p : Parts} {m : Meaning S} (laws : Laws p m) (entries : Typing S) (states : (i : ℕ) (s : S) → entries i ≡ Some s → m.is_state s ≡ true) (inside : (i : ℕ) (s : S) → entries i ≡ Some s → i < length p.code) where
  -- what is held where something arrives is above it
  above : (e a : Option S) (t : S) → a ≡ Some t → m.is_state t ≡ true → arrives m e a ≡ true → HoldsAbove m (holds e a) t
  above (Some s) (Some a) t q k h = let r : a ≡ t = grind arith in subst (λ (x : S). m.below x s ≡ true) r h
  above (Some s) None t q k h = absurd (grind arith)
  above None (Some a) t q k h = let r : a ≡ t = grind arith in subst (λ (x : S). m.below t x ≡ true) (sym r) (laws.reflexive t k)
  above None None t q k h = absurd (grind arith)

  held_state : (e a : Option S) (s : S) → holds e a ≡ Some s → ((x : S) → e ≡ Some x → m.is_state x ≡ true) → ((x : S) → a ≡ Some x → m.is_state x ≡ true) → m.is_state s ≡ true
  held_state (Some x) a s q h k = h s q
  held_state None a s q h k = k s q

  -- what goes on is the after-state
  goes : (i : ℕ) (t : S) (o : Option S) (x : S) → onward p i t ≡ Ok o → o ≡ Some x → x ≡ t
  goes i t o x e q = go (passes (ways_at p i)) (ltb (i + 1) (length p.code)) e
    where
      go : (a b : Bool) → cond a (cond b (Ok (Some t)) (Err (Leaves i))) (Ok None) ≡ Ok o → x ≡ t
      go true true e = grind arith
      go true false e = absurd (grind arith)
      go false b e = absurd (grind arith)

  module _ (accepts : walk p m entries ≡ Ok tt) where
    went_at : (i : ℕ) → i < length p.code → Went p m entries i
    went_at = all_went p m entries accepts

    arriving_state : (i : ℕ) → i ≤ length p.code → (x : S) → arriving p m entries i ≡ Some x → m.is_state x ≡ true
    arriving_state zero l x q = let r : m.start ≡ x = grind arith in subst (λ (s : S). m.is_state s ≡ true) r laws.start_is_state
    arriving_state (suc i) l x q = from (holds (entries i) (arriving p m entries i)) refl (arriving_state i (omega arith))
      where
        from : (o : Option S) → holds (entries i) (arriving p m entries i) ≡ o → ((y : S) → arriving p m entries i ≡ Some y → m.is_state y ≡ true) → m.is_state x ≡ true
        from (Some s) h k =
            let t = turned p m entries i s (went_at i (omega arith)) h in
            let sk = held_state (entries i) (arriving p m entries i) s h (states i) k in
            subst (λ (y : S). m.is_state y ≡ true) (sym (goes i t.after (arriving p m entries (suc i)) x t.goes_on q))
            (laws.after_is_state i s t.after sk t.accepted)
        from None h k =
            let w = went_at i (omega arith) in
            let u = test_passed (arrives m (entries i) (arriving p m entries i)) (passed_over p m entries i (holds (entries i) (arriving p m entries i))) (NotBelow i (sender_of i)) (arriving p m entries (suc i)) w in
            let n : Ok None ≡ Ok (arriving p m entries (suc i)) = subst (λ (o : Option S). passed_over p m entries i o ≡ Ok (arriving p m entries (suc i))) h u.1 in
            absurd (grind arith)

    held_at : (i : ℕ) (s : S) → held p m entries i ≡ Some s → (i < length p.code) × (holds (entries i) (arriving p m entries i) ≡ Some s)
    held_at i s h = go (ltb i (length p.code)) refl h
      where
        go : (b : Bool) → ltb i (length p.code) ≡ b → cond b (holds (entries i) (arriving p m entries i)) None ≡ Some s → (i < length p.code) × (holds (entries i) (arriving p m entries i) ≡ Some s)
        go true e q = (ltb-true i (length p.code) e, q)
        go false e q = absurd (grind arith)

    state_at : (i : ℕ) (s : S) → i < length p.code → holds (entries i) (arriving p m entries i) ≡ Some s → m.is_state s ≡ true
    state_at i s l h = held_state (entries i) (arriving p m entries i) s h (states i) (arriving_state i (omega arith))

    -- at an instruction of the code, what is held is above what arrives
    holds_above : (i : ℕ) (t : S) → i < length p.code → arriving p m entries i ≡ Some t → HoldsAbove m (held p m entries i) t
    holds_above i t l q =
        subst (λ (o : Option S). HoldsAbove m o t) (sym (held_is p m entries i l))
        (above (entries i) (arriving p m entries i) t q (arriving_state i (omega arith) t q) (arrived p m entries i (went_at i l)))

    -- the next way
    onward_above : (i : ℕ) (t : S) → passes (ways_at p i) ≡ true → onward p i t ≡ Ok (arriving p m entries (suc i)) → HoldsAbove m (held p m entries (i + 1)) t
    onward_above i t w e = go (ltb (i + 1) (length p.code)) refl (subst (λ (b : Bool). cond b (cond (ltb (i + 1) (length p.code)) (Ok (Some t)) (Err (Leaves i))) (Ok None) ≡ Ok (arriving p m entries (suc i))) w e)
      where
        go : (b : Bool) → ltb (i + 1) (length p.code) ≡ b → cond b (Ok (Some t)) (Err (Leaves i)) ≡ Ok (arriving p m entries (suc i)) → HoldsAbove m (held p m entries (i + 1)) t
        go true f h =
            let q : arriving p m entries (suc i) ≡ Some t = grind arith in
            let n : suc i ≡ i + 1 = omega arith in
            let l = ltb-true (i + 1) (length p.code) f in
            subst (λ (j : ℕ). HoldsAbove m (held p m entries j) t) n (holds_above (suc i) t (omega arith) q)
        go false f h = absurd (grind arith)

    -- the jump way
    entry_above : (i j : ℕ) (t : S) (o : Option S) → entries j ≡ o → jump_to m i j t o ≡ Ok tt → HoldsAbove m (held p m entries j) t
    entry_above i j t (Some e) q h =
        let u = test_passed (m.below t e) (Ok tt) (NotBelow j (Some i)) tt h in
        let l = inside j e q in
        let is : held p m entries j ≡ Some e = held_is p m entries j l ∙ ap (λ (x : Option S). holds x (arriving p m entries j)) q in
        subst (λ (x : Option S). HoldsAbove m x t) (sym is) u.0
    entry_above i j t None q h = absurd (grind arith)

    jump_above : (i : ℕ) (t : S) → jumps (ways_at p i) ≡ true → jumped p m entries i t ≡ Ok tt → HoldsAbove m (held p m entries (instruction_of p i).operand) t
    jump_above i t w e =
        let j = (instruction_of p i).operand in
        entry_above i j t (entries j) refl (subst (λ (b : Bool). cond b (jump_to m i j t (entries j)) (Ok tt) ≡ Ok tt) w e)

    led : (i j : ℕ) (s : S) (t : Turned p m entries i s) → Leads p i j → HoldsAbove m (held p m entries j) t.after
    led i j s t (next w) = onward_above i t.after w t.goes_on
    led i j s t (jump w) = jump_above i t.after w t.jumps_well

    flows_at : (i : ℕ) (s : S) → held p m entries i ≡ Some s → Accepts (m.after i s) (λ t. (j : ℕ) → Leads p i j → HoldsAbove m (held p m entries j) t)
    flows_at i s h =
        let u = held_at i s h in
        let t = turned p m entries i s (went_at i u.0) u.1 in
        subst (λ (r : Result S Fault). Accepts r (λ x. (j : ℕ) → Leads p i j → HoldsAbove m (held p m entries j) x)) (sym t.accepted)
        (λ j w. led i j s t w)

    begins_at : 0 < length p.code → (i : ℕ) (s : S) → Starts m i s → HoldsAbove m (held p m entries i) s
    begins_at l i s rule = holds_above 0 m.start l refl

    pub accepted_stable : 0 < length p.code → Stable p m (held p m entries)
    accepted_stable l = record {
      inside = λ i s h. (held_at i s h).0;
      states = λ i s h. let u = held_at i s h in state_at i s u.0 u.1;
      begins = begins_at l;
      flows = flows_at;
    }
