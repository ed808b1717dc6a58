use Rattle.std.proofs.Common.{◌≡◌, ℕ, ◌+◌, ◌*◌, ◌<◌, ◌≤◌, List, refl, ◌∙◌, subst}
use Rattle.format.specs.Bytes.{up_to, word_at}
use Rattle.format.specs.Tests.{count_at, field_agrees}
use Rattle.format.proofs.Inherited.{other_decides}
use Rattle.reader.proofs.classes.ClassTable.reads.Goals as goal

-- the same fields of the same records
same_fields : (bs : List ℕ) (n at a up u k m : ℕ) → at ≡ a → up ≡ u → k ≡ m → up_to 8 (field_agrees bs n at up k) ≡ up_to 8 (field_agrees bs n a u m)
same_fields bs n at a up u k m x y z = rw (x, y, z) refl

pub returns : goal.returns
returns c = record {
  after = λ before.
      let bs = c.args.self.bytes.now in
      let s = c.args.self.span in
      let at = s.start + 19 * c.args.i in
      let parent : c.from-parent.result ≡ word_at bs at = cc in
      let up : c.record-up.result.at ≡ s.start + 19 * word_at bs at = cc in
      let count : c.field_count-count.result ≡ count_at bs at = cc in
      let inherited : c.field_count-inherited.result ≡ count_at bs (s.start + 19 * word_at bs at) = cc in
      other_decides bs s c.args.i before c.if-i-eq0.false
      (subst (λ (w : ℕ). w < c.args.i) parent c.if-parent-i.false)
      (subst (λ (n : ℕ). n ≤ count_at bs at) inherited (subst (λ (n : ℕ). c.field_count-inherited.result ≤ n) count c.if-inherited-count.false))
      (subst (λ (n : ℕ). n ≤ 8) count c.if-count-gt8.false)
      c.fields_agree-2.result
      (c.fields_agree-2.ensures
      ∙ same_fields bs s.count c.record-class.result.at at c.record-up.result.at (s.start + 19 * word_at bs at) c.from-n.result (count_at bs (s.start + 19 * word_at bs at))
      c.record-class.ensures.at up (cc));
}
