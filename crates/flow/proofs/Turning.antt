-- A turn, from its steps.
use Rattle.std.proofs.Common.{◌≡◌, ℕ, suc, ◌+◌, ◌-◌, ◌<◌, Bool, true, false, cond, Some, Ok, Err, Option, Result, sym, ap, ◌∙◌, arith}
use Rattle.format.specs.Parts.{Parts}
use Rattle.analysis_theory.specs.declared.fault.Fault.{Fault}
use Rattle.analysis_theory.specs.Meaning.{Meaning}
use Rattle.analysis_theory.specs.Typing.{Typing}
use Rattle.flow_theory.specs.declared.flow.FlowFault.{FlowFault}
use Rattle.flow_theory.specs.declared.flow.FlowFault.TheVariants.{NotBelow}
use Rattle.flow_theory.specs.Walk.{sender_of, holds, arrives, and_then, jumped, onward, visited, passed_over, turn, after_turn, walk_from}
use Rattle.flow.specs.Answers.{EffectedAt, HeldAt}

module _ {S : Type 0} (p : Parts) (m : Meaning S) (entries : Typing S) (i : ℕ) (arriving : Option S) where
  -- the state that is held is visited
  held_visited : (s : S) → HeldAt m i (entries i) arriving (Ok (Some s)) → turn p m entries i arriving ≡ visited p m entries i (m.after i s)
  held_visited s h = go (arrives m (entries i) arriving) h
    where
      go : (b : Bool) → Ok (Some s) ≡ cond b (Ok (holds (entries i) arriving)) (Err (NotBelow i (sender_of i))) → cond b (passed_over p m entries i (holds (entries i) arriving)) (Err (NotBelow i (sender_of i))) ≡ visited p m entries i (m.after i s)
      go true e = let q : holds (entries i) arriving ≡ Some s = grind arith in ap (passed_over p m entries i) q
      go false e = absurd (grind arith)

  effect_visited : (s t : S) (o : Result S Fault) → EffectedAt o i (Ok tt) t → visited p m entries i o ≡ and_then (jumped p m entries i t) (onward p i t)
  effect_visited s t (Ok u) h = ap (λ (x : S). and_then (jumped p m entries i x) (onward p i x)) (sym h.1)
  effect_visited s t (Err f) h = absurd (grind arith)

  pub turn_is : (s t : S) (r : Result (Option S) FlowFault) → HeldAt m i (entries i) arriving (Ok (Some s)) → EffectedAt (m.after i s) i (Ok tt) t → r ≡ and_then (jumped p m entries i t) (onward p i t) → r ≡ turn p m entries i arriving
  turn_is s t r h k e = e ∙ sym (held_visited s h ∙ effect_visited s t (m.after i s) k)

module _ {S : Type 0} (p : Parts) (m : Meaning S) (entries : Typing S) where
  -- what is left of the walk, after one more turn
  pub walks_on : (len i : ℕ) (arriving a : Option S) → i < len → Ok a ≡ turn p m entries i arriving → walk_from p m entries (len - i) i arriving ≡ walk_from p m entries (len - (i + 1)) (i + 1) a
  walks_on len i arriving a l e =
      ap (λ (n : ℕ). walk_from p m entries n i arriving) (let q : len - i ≡ suc (len - (i + 1)) = omega arith in q)
      ∙ ap (λ r. after_turn r (λ x. walk_from p m entries (len - (i + 1)) (i + 1) x)) (sym e)

  pub walk_stops : (len i : ℕ) (arriving : Option S) (f : FlowFault) → i < len → Err f ≡ turn p m entries i arriving → walk_from p m entries (len - i) i arriving ≡ Err f
  walk_stops len i arriving f l e =
      ap (λ (n : ℕ). walk_from p m entries n i arriving) (let q : len - i ≡ suc (len - (i + 1)) = omega arith in q)
      ∙ ap (λ r. after_turn r (λ x. walk_from p m entries (len - (i + 1)) (i + 1) x)) (sym e)
