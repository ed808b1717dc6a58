-- Where a state describes a configuration and the instruction is accepted, the step meets neither fault 5 nor fault 6, and
-- the after-state describes a run that goes on.
use Rattle.std.specs.Prelude.{◌≡◌, ℕ, false, ◌||◌, ℤ, Some, None, Ok, Option, ◌==◌, ◌≢◌, refl}
use Rattle.std.proofs.Common.{sym, subst, ◌∙◌, arith}
use Rattle.std.proofs.lemmas.Bool.{or_from, ne_eqb}
use Rattle.opcodes.specs.declared.opcode.Opcode.{Opcode}
use Rattle.opcodes.specs.declared.opcode.Opcode.TheVariants.{Post, Return}
use Rattle.format.specs.Parts.{Parts, instruction_of}
use Rattle.machine.specs.Configuration.{Configuration}
use Rattle.machine.specs.Step.{step}
use Rattle.machine.proofs.Expected.{weaker_expected}
use Rattle.machine.proofs.Outline.{RowBy, posted, kept, Went, Blames, step_outline}
use Rattle.analysis_theory.specs.Laws.{Allowed}
use Rattle.rows_theory.specs.declared.state.RowState.{RowState}
use Rattle.rows_theory.specs.Effect.{row_by, row_after}
use Rattle.rows_theory.specs.Describing.{RowIs}
use Rattle.rows_theory.specs.Meaning.{rows_meaning}
use Rattle.rows_theory.proofs.Uses.{Use, posts, returns, leaves, use_of, posted as post-accepted, returned as return-accepted, accepted_same, inside}

-- but for post, an accepted instruction leaves what is known
same_state : (o : Opcode) (s t : RowState) → Use o → (o ≢ Post) → row_by o s ≡ Ok t → s ≡ t
same_state Post s t posts n e = absurd (n refl)
same_state Return s t returns n e = let r = return-accepted s t e in r.0 ∙ sym r.1
same_state o s t (leaves m k l) n e = accepted_same (sym (l s) ∙ e)

-- the row after an accepted instruction is as the after-state says
row_after_sound : {r q : Option ℤ} {o : Opcode} (s t : RowState) → RowBy r o q → row_by o s ≡ Ok t → RowIs s r → RowIs t q
row_after_sound s t (posted z) e h = subst (λ (x : RowState). RowIs x (Some z)) (sym (post-accepted s t e).1) (z, refl)
row_after_sound {r} s t (kept {o = o} n) e h = subst (λ (x : RowState). RowIs x r) (same_state o s t (use_of o) n e) h

-- no row is held where post is accepted
no_row_entered_twice : (r : Option ℤ) (b : ℤ) (o : Opcode) (s t : RowState) → o ≡ Post → row_by o s ≡ Ok t → RowIs s r → r ≢ Some b
no_row_entered_twice r b o s t p e h held = grind arith

-- a row is held where return is accepted
no_row_missing : (r : Option ℤ) (o : Opcode) (s t : RowState) → o ≡ Return → row_by o s ≡ Ok t → RowIs s r → r ≢ None
no_row_missing r o s t p e h missing = grind arith

blameless : (c : Configuration) (o : Opcode) (n f : ℕ) (s t : RowState) → row_by o s ≡ Ok t → RowIs s c.row → Blames c o n f → (f == 5 || f == 6) ≡ false
blameless c o n f s t e h b =
    or_from (f == 5) (f == 6)
    (ne_eqb f 5 (λ q. let w = b.held q in no_row_entered_twice c.row w.1.0 o s t w.0 e h w.1.1))
    (ne_eqb f 6 (λ q. let w = b.missing q in no_row_missing c.row o s t w.0 e h w.1))

pub step_allowed : (p : Parts) (s t : RowState) (c : Configuration) → RowIs s c.row → row_after p c.at s ≡ Ok t → Allowed (rows_meaning p) t (step p c)
step_allowed p s t c h e =
    let i = inside p c.at s t e in
    let o = (instruction_of p c.at).opcode in
    let n = (instruction_of p c.at).operand in
    weaker_expected (Went c o n) (λ d. RowIs t d.row) (Blames c o n) (λ f. (f == 5 || f == 6) ≡ false) (step p c)
    (λ d w. row_after_sound s t w.row i.1 h) (λ f b. blameless c o n f s t i.1 h b) (step_outline p c i.0)
