-- Where a set describes a configuration and the instruction is accepted, the step does not meet fault 4, and the set after it
-- describes a run that goes on.
use Rattle.std.specs.Prelude.{◌≡◌, ℕ, ◌<◌, false, List, length, Some, None, Ok, Option, ◌==◌, ◌≢◌, slice_index_or, slice_set, refl}
use Rattle.std.proofs.Common.{sym, subst, ◌∙◌, ⊎_elim, arith}
use Rattle.std.proofs.lemmas.List.{length-set, get_or-set_same, get_or-set_other}
use Rattle.std.proofs.lemmas.Bool.{cases_eq, ne_eqb}
use Rattle.std.proofs.lemmas.Option.{none-some}
use Rattle.opcodes.specs.declared.opcode.Opcode.{Opcode}
use Rattle.opcodes.specs.declared.opcode.Opcode.TheVariants.{Load, Store}
use Rattle.format.specs.Parts.{Parts, instruction_of}
use Rattle.format.specs.Rules.{Keeps}
use Rattle.machine.specs.Values.{Value}
use Rattle.machine.specs.Configuration.{Configuration}
use Rattle.machine.specs.Step.{step}
use Rattle.machine.proofs.Expected.{weaker_expected}
use Rattle.machine.proofs.Outline.{SlotsBy, stored, kept, Went, Blames, step_outline}
use Rattle.analysis_theory.specs.Laws.{Allowed}
use Rattle.slots_theory.specs.declared.set.SlotSet.{SlotSet}
use Rattle.slots_theory.specs.Sets.{with_slot}
use Rattle.slots_theory.specs.Effect.{slots_by, slots_after}
use Rattle.slots_theory.specs.Describing.{SlotsAre, slots_describe}
use Rattle.slots_theory.specs.Meaning.{slots_meaning}
use Rattle.slots_theory.proofs.Membership.{was_in}
use Rattle.slots_theory.proofs.Uses.{Use, loads, stores, leaves, use_of, loaded, accepted_same, inside, store_names_a_slot}

-- but for store, an accepted instruction leaves the set
same_state : (o : Opcode) (n : ℕ) (s t : SlotSet) → Use o → (o ≢ Store) → slots_by o n s ≡ Ok t → s ≡ t
same_state Load n s t loads k e = (loaded n s t e).1
same_state Store n s t stores k e = absurd (k refl)
same_state o n s t (leaves l m h) k e = accepted_same (sym (h n s) ∙ e)

-- a store gives its slot a value, and the others keep theirs
stored_are : (count n : ℕ) (s : SlotSet) (xs : List (Option Value)) (v : Value) → n < count → SlotsAre count s xs → SlotsAre count (with_slot s n) (slice_set xs n (Some v))
stored_are count n s xs v l h =
    let exists : n < length xs = omega (arith, h.counted) in
    record {
      counted = length-set xs n (Some v) ∙ h.counted;
      given = λ k is_in.
          ⊎_elim
          (λ e. (v, subst (λ (j : ℕ). slice_index_or (slice_set xs n (Some v)) j None ≡ Some v) (sym e) (get_or-set_same xs n (Some v) None exists)))
          (λ apart. let old = h.given k (was_in s n k apart is_in) in (old.0, get_or-set_other xs n k (Some v) None apart ∙ old.1))
          (cases_eq k n);
    }

-- the slots after an accepted instruction are as the set after it says
slots_after_sound : {n : ℕ} {xs ys : List (Option Value)} {o : Opcode} (count : ℕ) (s t : SlotSet) → SlotsBy n xs o ys → (o ≡ Store → n < count) → slots_by o n s ≡ Ok t → SlotsAre count s xs → SlotsAre count t ys
slots_after_sound {n} {xs} count s t (stored v) exists e h =
    subst (λ (x : SlotSet). SlotsAre count x (slice_set xs n (Some v))) (accepted_same e) (stored_are count n s xs v (exists refl) h)
slots_after_sound {n} {xs} count s t (kept {o = o} k) exists e h =
    subst (λ (x : SlotSet). SlotsAre count x xs) (same_state o n s t (use_of o) k e) h

-- the slot of an accepted load has a value
no_slot_unset : (count n : ℕ) (xs : List (Option Value)) (o : Opcode) (s t : SlotSet) → o ≡ Load → slots_by o n s ≡ Ok t → SlotsAre count s xs → slice_index_or xs n None ≢ None
no_slot_unset count n xs o s t p e h unset =
    let has = (loaded n s t (subst (λ (x : Opcode). slots_by x n s ≡ Ok t) p e)).0 in
    let value = h.given n has in
    none-some value.0 (sym unset ∙ value.1)

pub step_allowed : (p : Parts) → Keeps p → (s t : SlotSet) (c : Configuration) → slots_describe p s c → slots_after p c.at s ≡ Ok t → Allowed (slots_meaning p) t (step p c)
step_allowed p k s t c h e =
    let i = inside p c.at s t e in
    let o = (instruction_of p c.at).opcode in
    let n = (instruction_of p c.at).operand in
    let count = length p.slots in
    weaker_expected (Went c o n) (slots_describe p t) (Blames c o n) (λ f. (f == 4) ≡ false) (step p c)
    (λ d w. slots_after_sound count s t w.slots (store_names_a_slot p k c.at i.0) i.1 h)
    (λ f b. ne_eqb f 4 (λ q. let w = b.unset q in no_slot_unset count n c.slots o s t w.0 i.1 h w.1))
    (step_outline p c i.0)
