-- The analysis of the row keeps the laws.
use Rattle.std.specs.Prelude.{◌≡◌, ℕ, Bool, true, cond, length, Ok, Err, Result, ◌==◌, nat_lt, refl}
use Rattle.std.proofs.Common.{sym, subst, ◌∙◌, ⊎_elim}
use Rattle.std.proofs.lemmas.Bool.{cond_both, lt-ltb}
use Rattle.std.proofs.lemmas.Option.{none-some, same_Some}
use Rattle.opcodes.specs.declared.opcode.Opcode.{Opcode}
use Rattle.opcodes.specs.declared.opcode.Opcode.TheVariants.{Post, Return}
use Rattle.format.specs.Parts.{Parts, instruction_of}
use Rattle.format.specs.Rules.{Keeps}
use Rattle.analysis_theory.specs.declared.fault.Cause.TheVariants.{Outside}
use Rattle.analysis_theory.specs.declared.fault.Fault.{Fault}
use Rattle.analysis_theory.specs.Laws.{Laws, Accepts}
use Rattle.machine.specs.Configuration.{Configuration}
use Rattle.rows_theory.specs.declared.state.RowState.{RowState}
use Rattle.rows_theory.specs.declared.state.RowState.TheVariants.{Empty, Held, Perhaps}
use Rattle.rows_theory.specs.Order.{row_below}
use Rattle.rows_theory.specs.Effect.{posting, returning, row_by, row_after, row_fault}
use Rattle.rows_theory.specs.Describing.{RowIs}
use Rattle.rows_theory.specs.Meaning.{rows_meaning}
use Rattle.rows_theory.proofs.OrderLemmas.{below_itself, below_perhaps, only_above, below_through, below_both, join_above_left, join_above_right, join_least, height_falls}
use Rattle.rows_theory.proofs.Uses.{Use, posts, returns, leaves, use_of, refused_not_accepted, accepted_same, inside}
use Rattle.rows_theory.proofs.Safe.{step_allowed}
use Rattle.rows_theory.proofs.WritingLemmas.{writes_a_byte, reads_its_writing, reads_only_writings, refuses_under_3}

-- what is accepted where perhaps a row is held is accepted in every state
perhaps_monotone : (o : Opcode) (a d : RowState) → Use o → row_by o Perhaps ≡ Ok d → Accepts (row_by o a) (λ c. row_below c d ≡ true)
perhaps_monotone Post a d posts e = absurd (refused_not_accepted e)
perhaps_monotone Return a d returns e = absurd (refused_not_accepted e)
perhaps_monotone o a d (leaves m n l) e =
    subst (λ (r : Result RowState Fault). Accepts r (λ c. row_below c d ≡ true)) (sym (l a))
    (subst (λ (x : RowState). row_below a x ≡ true) (accepted_same (sym (l Perhaps) ∙ e)) (below_perhaps a))

after_monotone : (p : Parts) (i : ℕ) (a b d : RowState) → row_below a b ≡ true → row_after p i b ≡ Ok d → Accepts (row_after p i a) (λ c. row_below c d ≡ true)
after_monotone p i a b d h e =
    let o = (instruction_of p i).opcode in
    ⊎_elim
    (λ q.
    subst (λ (x : RowState). Accepts (row_after p i x) (λ c. row_below c d ≡ true)) (sym q)
    (subst (λ (r : Result RowState Fault). Accepts r (λ c. row_below c d ≡ true)) (sym e) (below_itself d)))
    (λ q.
    let j = inside p i Perhaps d (subst (λ (x : RowState). row_after p i x ≡ Ok d) q e) in
    subst (λ (t : Bool). Accepts (cond t (row_by o a) (Err (row_fault Outside))) (λ c. row_below c d ≡ true))
    (sym (lt-ltb i (length p.code) j.0)) (perhaps_monotone o a d (use_of o) j.1))
    (only_above a b h)

-- what is refused is refused under layer 3
abbrev RefusedUnder3 : Result RowState Fault → Type 0
RefusedUnder3 (Ok t) = Unit {0}
RefusedUnder3 (Err f) = (f.layer == 3) ≡ true

posting_under_3 : (s : RowState) → RefusedUnder3 (posting s)
posting_under_3 Held = refl
posting_under_3 Empty = tt
posting_under_3 s = refl

returning_under_3 : (s : RowState) → RefusedUnder3 (returning s)
returning_under_3 Held = tt
returning_under_3 s = refl

by_under_3 : (o : Opcode) (s : RowState) → Use o → RefusedUnder3 (row_by o s)
by_under_3 Post s posts = posting_under_3 s
by_under_3 Return s returns = returning_under_3 s
by_under_3 o s (leaves m n l) = subst RefusedUnder3 (sym (l s)) tt

after_under_3 : (p : Parts) (i : ℕ) (s : RowState) → RefusedUnder3 (row_after p i s)
after_under_3 p i s =
    let o = (instruction_of p i).opcode in
    cond_both (nat_lt i (length p.code)) (row_by o s) (Err (row_fault Outside)) RefusedUnder3 (λ e. by_under_3 o s (use_of o)) (λ e. refl)

described_above : (a b : RowState) (c : Configuration) → row_below a b ≡ true → RowIs a c.row → RowIs b c.row
described_above a b c h k =
    ⊎_elim (λ e. subst (λ (x : RowState). RowIs x c.row) e k)
    (λ e. subst (λ (x : RowState). RowIs x c.row) (sym e) tt) (only_above a b h)

pub rows_laws : (p : Parts) → Keeps p → Laws p (rows_meaning p)
rows_laws p k = record {
  start_is_state = refl;
  after_is_state = λ i s t h e. refl;
  join_is_state = λ a b c h g e. refl;
  reflexive = λ a h. below_itself a;
  transitive = λ a b c x y z h g. below_through a b c h g;
  antisymmetric = λ a b x y h g. below_both a b h g;
  above_left = λ a b c x y e. rw (same_Some _ _ e) at (join_above_left a b);
  above_right = λ a b c x y e. rw (same_Some _ _ e) at (join_above_right a b);
  least = λ a b c d x y z e h g. rw (same_Some _ _ e) at (join_least a b d h g);
  refused = λ a b d x y z e h g. none-some _ (sym e);
  falls = λ a b x y h. height_falls a b h;
  monotone = λ i a b d x y h e. after_monotone p i a b d h e;
  describes_start = λ v h. refl;
  describes_above = λ a b c x y h g. described_above a b c h g;
  safe = λ s t c x h e. step_allowed p s t c h e;
  writes_bytes = λ s h. writes_a_byte s;
  reads_back = λ s rest h. reads_its_writing s rest;
  reads_only = λ bs g h e. let w = reads_only_writings bs g e in (refl, w.0, w.1);
  layers_from_1 = refl;
  fault_layer = λ i s f e. subst RefusedUnder3 e (after_under_3 p i s);
  refusal_layer = λ bs u e. refuses_under_3 _ u e;
}
