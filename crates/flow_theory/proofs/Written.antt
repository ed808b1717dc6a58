-- The entries of a stable typing are accepted: what the walk holds stays below the typing.
use Rattle.std.proofs.Common.{◌≡◌, ℕ, zero, suc, ◌+◌, ◌<◌, Bool, true, false, cond, ◌&&◌, eqb, ltb, length, is_some, Some, None, Ok, Err, Option, Result, sym, refl, ap, ◌∙◌, subst, ⊎_elim, arith, lt-ltb, eq-eqb}
use Rattle.std.proofs.lemmas.Bool.{and_from, or_left, or_right, cases_eq}
use Rattle.opcodes.specs.TableRule.{jumps}
use Rattle.format.specs.Parts.{Parts, instruction_of}
use Rattle.machine.specs.Ways.{Leads, next, jump, passes}
use Rattle.analysis_theory.specs.declared.fault.Fault.{Fault}
use Rattle.analysis_theory.specs.Meaning.{Meaning}
use Rattle.analysis_theory.specs.Laws.{Laws, Accepts}
use Rattle.analysis_theory.specs.Typing.{Typing, HoldsAbove, rule, Stable}
use Rattle.flow_theory.specs.declared.flow.FlowFault.{FlowFault}
use Rattle.flow_theory.specs.declared.flow.FlowFault.TheVariants.{NotBelow, Leaves}
use Rattle.flow_theory.specs.Walk.{sender_of, ways_at, holds, arrives, jump_to, jumped, onward, and_then, visited, passed_over, turn, after_turn, walk_from, walk}
use Rattle.flow_theory.specs.Held.{targeted, entries_of}

-- a jump of an instruction with a state is found
target_found : {S : Type 0} (p : Parts) (τ : Typing S) (n i : ℕ) → i < n → is_some (τ i) ≡ true → jumps (ways_at p i) ≡ true → targeted p τ n (instruction_of p i).operand ≡ true
target_found p τ zero i l s w = absurd (omega arith)
target_found p τ (suc n) i l s w =
    ⊎_elim
    (λ (e : i ≡ n).
    let here : (is_some (τ i) && (jumps (ways_at p i) && eqb (instruction_of p i).operand (instruction_of p i).operand)) ≡ true =
    and_from _ _ s (and_from _ _ w (eq-eqb (instruction_of p i).operand (instruction_of p i).operand refl)) in
    or_left _ _ (subst (λ (k : ℕ). (is_some (τ k) && (jumps (ways_at p k) && eqb (instruction_of p k).operand (instruction_of p i).operand)) ≡ true) e here))
    (λ ne. or_right _ _ (target_found p τ n i (omega arith) s w))
    (cases_eq i n)

module _ {S : Type 0} {p : Parts} {m : Meaning S} (laws : Laws p m) (τ : Typing S) (stable : Stable p m τ) where
  abbrev entries : Typing S
  entries = entries_of p τ

  -- an entry is the typing's state
  entry_is : (j : ℕ) (e : S) → entries j ≡ Some e → τ j ≡ Some e
  entry_is j e q = go (targeted p τ (length p.code) j) q
    where
      go : (b : Bool) → cond b (τ j) None ≡ Some e → τ j ≡ Some e
      go true h = h
      go false h = absurd (grind arith)

  -- what arrives, if anything does, is a state below the typing's
  abbrev Under : ℕ → Option S → Type 0
  Under i o = (a : S) → o ≡ Some a → (m.is_state a ≡ true) × HoldsAbove m (τ i) a

  above_is : (i : ℕ) (a s : S) → τ i ≡ Some s → HoldsAbove m (τ i) a → m.below a s ≡ true
  above_is i a s q h = subst (λ (o : Option S). HoldsAbove m o a) q h

  typed : (o : Option S) (a : S) → HoldsAbove m o a → (s : S) × (o ≡ Some s) × (m.below a s ≡ true)
  typed (Some s) a h = (s, refl, h)
  typed None a h = absurd h

  arrives_well : (i : ℕ) (o e : Option S) → entries i ≡ e → Under i o → arrives m e o ≡ true
  arrives_well i (Some a) (Some e) q u = above_is i a e (entry_is i e q) (u a refl).1
  arrives_well i None (Some e) q u = refl
  arrives_well i o None q u = refl

  -- what is held is a state below the typing's
  record HeldUnder (i : ℕ) (s : S) : Type 0 where
    is_a_state : m.is_state s ≡ true
    upper : S
    there : τ i ≡ Some upper
    under : m.below s upper ≡ true

  held_under : (i : ℕ) (o e : Option S) (s : S) → entries i ≡ e → Under i o → holds e o ≡ Some s → HeldUnder i s
  held_under i o (Some e) s q u h =
      let is : e ≡ s = grind arith in
      let there : τ i ≡ Some s = entry_is i e q ∙ ap Some is in
      let k = stable.states i s there in
      record { is_a_state = k; upper = s; there = there; under = laws.reflexive s k }
  held_under i o None s q u h =
      let x = u s h in
      let y = typed (τ i) s x.1 in
      record { is_a_state = x.0; upper = y.0; there = y.1; under = y.2 }

  -- what an accepted instruction gives lies below what the typing's state gives
  record Moved (i : ℕ) (s : S) : Type 0 where
    after : S
    accepted : m.after i s ≡ Ok after
    is_a_state : m.is_state after ≡ true
    above : (j : ℕ) → Leads p i j → HoldsAbove m (τ j) after

  lower : (o : Option S) (t u : S) → ((s : S) → o ≡ Some s → m.is_state s ≡ true) → m.is_state t ≡ true → m.is_state u ≡ true → m.below t u ≡ true → HoldsAbove m o u → HoldsAbove m o t
  lower (Some s) t u k a b h g = laws.transitive t u s a b (k s refl) h g
  lower None t u k a b h g = g

  moved : (i : ℕ) (s : S) → HeldUnder i s → Moved i s
  moved i s h = from (m.after i h.upper) refl (stable.flows i h.upper h.there)
    where
      upper_state : m.is_state h.upper ≡ true
      upper_state = stable.states i h.upper h.there

      down : (r : Result S Fault) (u : S) → m.after i s ≡ r → m.is_state u ≡ true → Accepts r (λ t. m.below t u ≡ true) → ((j : ℕ) → Leads p i j → HoldsAbove m (τ j) u) → Moved i s
      down (Ok t) u e k b g =
          let ts = laws.after_is_state i s t h.is_a_state e in
          record { after = t; accepted = e; is_a_state = ts; above = λ j w. lower (τ j) t u (λ x q. stable.states j x q) ts k b (g j w) }
      down (Err f) u e k b g = absurd b

      from : (r : Result S Fault) → m.after i h.upper ≡ r → Accepts r (λ u. (j : ℕ) → Leads p i j → HoldsAbove m (τ j) u) → Moved i s
      from (Ok u) e g =
          down (m.after i s) u refl (laws.after_is_state i h.upper u upper_state e)
          (laws.monotone i s h.upper u h.is_a_state upper_state h.under e) g
      from (Err f) e g = absurd g

  -- a jump finds its entry
  jumps_well : (i : ℕ) (s t : S) → i < length p.code → τ i ≡ Some s → ((j : ℕ) → Leads p i j → HoldsAbove m (τ j) t) → jumped p m entries i t ≡ Ok tt
  jumps_well i s t l q g = go (jumps (ways_at p i)) refl
    where
      go : (b : Bool) → jumps (ways_at p i) ≡ b → cond b (jump_to m i (instruction_of p i).operand t (entries (instruction_of p i).operand)) (Ok tt) ≡ Ok tt
      go true w =
          let a = typed (τ (instruction_of p i).operand) t (g (instruction_of p i).operand (jump w)) in
          let found : targeted p τ (length p.code) (instruction_of p i).operand ≡ true =
          target_found p τ (length p.code) i l (ap is_some q) w in
          let entry : entries (instruction_of p i).operand ≡ Some a.0 = rw found a.1 in
          ap (jump_to m i (instruction_of p i).operand t) entry ∙ rw a.2 refl
      go false w = refl

  -- what goes on stays below the typing
  record GoesOn (i : ℕ) (r : Result (Option S) FlowFault) : Type 0 where
    arriving : Option S
    ok : r ≡ Ok arriving
    under : Under (i + 1) arriving

  nothing : (i : ℕ) → Under i None
  nothing i a q = absurd (grind arith)

  goes_well : (i : ℕ) (t : S) → m.is_state t ≡ true → ((j : ℕ) → Leads p i j → HoldsAbove m (τ j) t) → GoesOn i (onward p i t)
  goes_well i t k g = go (passes (ways_at p i)) refl
    where
      go : (b : Bool) → passes (ways_at p i) ≡ b → GoesOn i (cond b (cond (ltb (i + 1) (length p.code)) (Ok (Some t)) (Err (Leaves i))) (Ok None))
      go true w =
          let h = g (i + 1) (next w) in
          let a = typed (τ (i + 1)) t h in
          let l = stable.inside (i + 1) a.0 a.1 in
          record {
            arriving = Some t;
            ok = rw (lt-ltb (i + 1) (length p.code) l) refl;
            under = λ x q. let e : t ≡ x = grind arith in subst (λ (y : S). (m.is_state y ≡ true) × HoldsAbove m (τ (i + 1)) y) e (k, h);
          }
      go false w = record { arriving = None; ok = refl; under = nothing (i + 1) }

  turn_well : (i : ℕ) (o : Option S) → i < length p.code → Under i o → GoesOn i (turn p m entries i o)
  turn_well i o l u =
      subst (λ (b : Bool). GoesOn i (cond b (passed_over p m entries i (holds (entries i) o)) (Err (NotBelow i (sender_of i))))) (sym (arrives_well i o (entries i) refl u))
      (on (holds (entries i) o) refl)
    where
      on : (h : Option S) → holds (entries i) o ≡ h → GoesOn i (passed_over p m entries i h)
      on (Some s) q =
          let hu = held_under i o (entries i) s refl u q in
          let mv = moved i s hu in
          subst (λ (r : Result S Fault). GoesOn i (visited p m entries i r)) (sym mv.accepted)
          (subst (λ (r : Result (Unit {0}) FlowFault). GoesOn i (and_then r (onward p i mv.after))) (sym (jumps_well i hu.upper mv.after l hu.there mv.above))
          (goes_well i mv.after mv.is_a_state mv.above))
      on None q = record { arriving = None; ok = refl; under = nothing (i + 1) }

  walks_well : (n i : ℕ) (o : Option S) → i + n ≡ length p.code → Under i o → walk_from p m entries n i o ≡ Ok tt
  walks_well zero i o e u = refl
  walks_well (suc n) i o e u =
      let g = turn_well i o (omega arith) u in
      ap (λ r. after_turn r (λ a. walk_from p m entries n (i + 1) a)) g.ok ∙ walks_well n (i + 1) g.arriving (omega arith) g.under

  pub stable_accepted : walk p m (entries_of p τ) ≡ Ok tt
  stable_accepted =
      walks_well (length p.code) 0 (Some m.start) (omega arith)
      (λ a q. let e : m.start ≡ a = grind arith in subst (λ (x : S). (m.is_state x ≡ true) × HoldsAbove m (τ 0) x) e (laws.start_is_state, stable.begins 0 m.start rule))
