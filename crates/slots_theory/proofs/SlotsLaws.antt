-- The analysis of the slots keeps the laws.
use Rattle.std.specs.Prelude.{◌≡◌, ℕ, ◌-◌, ◌<◌, Bool, true, cond, length, Some, None, Ok, Err, Option, Result, ◌==◌, bit_and, nat_lt, slice_index_or, refl}
use Rattle.std.proofs.Common.{sym, subst, ◌∙◌, inl, inr, ⊎_elim, arith}
use Rattle.std.specs.Int.Bits.{and_self, and_lt}
use Rattle.std.proofs.lemmas.Nat.{pow_below, or_lt}
use Rattle.std.proofs.lemmas.List.{length-replicate}
use Rattle.std.proofs.lemmas.Bool.{cond_both, cond-true, eq-eqb, eqb-true, lt-ltb, ltb-true}
use Rattle.std.proofs.lemmas.Option.{none-some, same_Some}
use Rattle.opcodes.specs.declared.opcode.Opcode.{Opcode}
use Rattle.opcodes.specs.declared.opcode.Opcode.TheVariants.{Load, Store}
use Rattle.format.specs.Parts.{Parts, instruction_of}
use Rattle.format.specs.Rules.{Keeps}
use Rattle.machine.specs.Values.{Vessel, Value, ref}
use Rattle.machine.specs.Configuration.{Configuration}
use Rattle.machine.specs.Runs.{start}
use Rattle.analysis_theory.specs.declared.fault.Cause.TheVariants.{Unset, Outside}
use Rattle.analysis_theory.specs.declared.fault.Fault.{Fault}
use Rattle.analysis_theory.specs.Laws.{Laws, Accepts}
use Rattle.slots_theory.specs.declared.set.SlotSet.{SlotSet}
use Rattle.slots_theory.specs.Sets.{bit_of, has_slot, has_all, first_slot, with_slot}
use Rattle.slots_theory.specs.Effect.{slots_by, slots_after, slot_fault}
use Rattle.slots_theory.specs.Describing.{slots_describe}
use Rattle.slots_theory.specs.Writing.{in_slots}
use Rattle.slots_theory.specs.Meaning.{slots_meaning}
use Rattle.slots_theory.proofs.Same.{same_set}
use Rattle.slots_theory.proofs.Inclusion.{Includes, includes_through, both_include, left_includes, right_includes, intersection_includes, same_or_more_ones, includes_with}
use Rattle.slots_theory.proofs.Membership.{larger_has, bit_below, first_alone}
use Rattle.slots_theory.proofs.Uses.{Use, loads, stores, leaves, use_of, loaded, accepted_same, inside, store_names_a_slot}
use Rattle.slots_theory.proofs.Safe.{step_allowed}
use Rattle.slots_theory.proofs.WritingLemmas.{writes_four_bytes, reads_its_writing, reads_only_writings, refuses_under_2}

-- sets of the unit stay sets of the unit
by_is_state : (p : Parts) (o : Opcode) (n : ℕ) (s t : SlotSet) → Use o → (o ≡ Store → n < length p.slots) → in_slots p s.bits ≡ true → slots_by o n s ≡ Ok t → in_slots p t.bits ≡ true
by_is_state p Load n s t loads exists h e = subst (λ (x : SlotSet). in_slots p x.bits ≡ true) (loaded n s t e).1 h
by_is_state p Store n s t stores exists h e =
    subst (λ (x : SlotSet). in_slots p x.bits ≡ true) (accepted_same e)
    (lt-ltb _ _
    (or_lt (length p.slots) s.bits (bit_of n) (ltb-true _ _ h) (bit_below n (length p.slots) (exists refl))))
by_is_state p o n s t (leaves l m k) exists h e =
    subst (λ (x : SlotSet). in_slots p x.bits ≡ true) (accepted_same (sym (k n s) ∙ e)) h

after_is_state : (p : Parts) → Keeps p → (i : ℕ) (s t : SlotSet) → in_slots p s.bits ≡ true → slots_after p i s ≡ Ok t → in_slots p t.bits ≡ true
after_is_state p k i s t h e =
    let j = inside p i s t e in
    by_is_state p (instruction_of p i).opcode (instruction_of p i).operand s t (use_of (instruction_of p i).opcode)
    (store_names_a_slot p k i j.0) h j.1

join_is_state : (p : Parts) (a b : SlotSet) → in_slots p a.bits ≡ true → in_slots p b.bits ≡ true → in_slots p (bit_and a.bits b.bits) ≡ true
join_is_state p a b h g =
    lt-ltb _ _ (and_lt (length p.slots) a.bits b.bits (ltb-true _ _ h) (ltb-true _ _ g))

-- what is accepted is accepted for every larger set
by_monotone : (o : Opcode) (n : ℕ) (a b d : SlotSet) → Use o → Includes a.bits b.bits → slots_by o n b ≡ Ok d → Accepts (slots_by o n a) (λ c. has_all c d ≡ true)
by_monotone Load n a b d loads h e =
    let l = loaded n b d e in
    subst (λ (r : Result SlotSet Fault). Accepts r (λ c. has_all c d ≡ true))
    (sym (cond-true (has_slot a n) (Ok a) (Err (slot_fault (Unset n))) (larger_has a b n h l.0)))
    (subst (λ (x : SlotSet). has_all a x ≡ true) l.1 (eq-eqb _ _ h))
by_monotone Store n a b d stores h e =
    subst (λ (x : SlotSet). has_all (with_slot a n) x ≡ true) (accepted_same e)
    (eq-eqb _ _ (includes_with a.bits b.bits (bit_of n) h))
by_monotone o n a b d (leaves l m k) h e =
    subst (λ (r : Result SlotSet Fault). Accepts r (λ c. has_all c d ≡ true)) (sym (k n a))
    (subst (λ (x : SlotSet). has_all a x ≡ true) (accepted_same (sym (k n b) ∙ e)) (eq-eqb _ _ h))

after_monotone : (p : Parts) (i : ℕ) (a b d : SlotSet) → has_all a b ≡ true → slots_after p i b ≡ Ok d → Accepts (slots_after p i a) (λ c. has_all c d ≡ true)
after_monotone p i a b d h e =
    let o = (instruction_of p i).opcode in
    let n = (instruction_of p i).operand in
    let j = inside p i b d e in
    subst (λ (t : Bool). Accepts (cond t (slots_by o n a) (Err (slot_fault Outside))) (λ c. has_all c d ≡ true))
    (sym (lt-ltb i (length p.code) j.0)) (by_monotone o n a b d (use_of o) (eqb-true _ _ h) j.1)

-- the start has the unit's slots, and the vessel in slot 0
start_described : (p : Parts) → Keeps p → (v : Vessel) → slots_describe p first_slot (start p v)
start_described p k v =
    record {
      counted = let some = k.some_slots in omega (arith, length-replicate {A = Option Value} (length p.slots - 1) None);
      given = λ n h. (ref 1, subst (λ (m : ℕ). slice_index_or (start p v).slots m None ≡ Some (ref 1)) (sym (first_alone n h)) refl);
    }

described_above : (p : Parts) (a b : SlotSet) (c : Configuration) → has_all a b ≡ true → slots_describe p a c → slots_describe p b c
described_above p a b c h d = record { counted = d.counted; given = λ k g. d.given k (larger_has a b k (eqb-true _ _ h) g) }

-- what is refused is refused under layer 2
abbrev RefusedUnder2 : Result SlotSet Fault → Type 0
RefusedUnder2 (Ok t) = Unit {0}
RefusedUnder2 (Err f) = (f.layer == 2) ≡ true

by_under_2 : (o : Opcode) (n : ℕ) (s : SlotSet) → Use o → RefusedUnder2 (slots_by o n s)
by_under_2 Load n s loads = cond_both (has_slot s n) (Ok s) (Err (slot_fault (Unset n))) RefusedUnder2 (λ e. tt) (λ e. refl)
by_under_2 Store n s stores = tt
by_under_2 o n s (leaves l m k) = subst RefusedUnder2 (sym (k n s)) tt

after_under_2 : (p : Parts) (i : ℕ) (s : SlotSet) → RefusedUnder2 (slots_after p i s)
after_under_2 p i s =
    let o = (instruction_of p i).opcode in
    let n = (instruction_of p i).operand in
    cond_both (nat_lt i (length p.code)) (slots_by o n s) (Err (slot_fault Outside)) RefusedUnder2 (λ e. by_under_2 o n s (use_of o)) (λ e. refl)

pub slots_laws : (p : Parts) → Keeps p → Laws p (slots_meaning p)
slots_laws p k = record {
  start_is_state = lt-ltb _ _ (pow_below 0 (length p.slots) k.some_slots);
  after_is_state = λ i s t h e. after_is_state p k i s t h e;
  join_is_state = λ a b c h g e. subst (λ (x : SlotSet). in_slots p x.bits ≡ true) (same_Some _ _ e) (join_is_state p a b h g);
  reflexive = λ a x. eq-eqb _ _ (and_self a.bits);
  transitive = λ a b c x y z h g. eq-eqb _ _ (includes_through a.bits b.bits c.bits (eqb-true _ _ h) (eqb-true _ _ g));
  antisymmetric = λ a b x y h g. same_set a b (both_include a.bits b.bits (eqb-true _ _ h) (eqb-true _ _ g));
  above_left = λ a b c x y e.
      subst (λ (s : SlotSet). has_all a s ≡ true) (same_Some _ _ e) (eq-eqb _ _ (left_includes a.bits b.bits));
  above_right = λ a b c x y e.
      subst (λ (s : SlotSet). has_all b s ≡ true) (same_Some _ _ e) (eq-eqb _ _ (right_includes a.bits b.bits));
  least = λ a b c d x y z e h g.
      subst (λ (s : SlotSet). has_all s d ≡ true) (same_Some _ _ e)
      (eq-eqb _ _ (intersection_includes a.bits b.bits d.bits (eqb-true _ _ h) (eqb-true _ _ g)));
  refused = λ a b d x y z e h g. none-some _ (sym e);
  falls = λ a b x y h.
      ⊎_elim (λ e. inl (same_set a b e)) (λ less. inr less) (same_or_more_ones a.bits b.bits (eqb-true _ _ h));
  monotone = λ i a b d x y h e. after_monotone p i a b d h e;
  describes_start = λ v h. start_described p k v;
  describes_above = λ a b c x y h d. described_above p a b c h d;
  safe = λ s t c x d e. step_allowed p k s t c d e;
  writes_bytes = λ s x. writes_four_bytes s;
  reads_back = λ s rest x. reads_its_writing p s rest x;
  reads_only = λ bs g all e. reads_only_writings p bs g all e;
  layers_from_1 = refl;
  fault_layer = λ i s f e. subst RefusedUnder2 e (after_under_2 p i s);
  refusal_layer = λ bs u e. refuses_under_2 p bs u e;
}
