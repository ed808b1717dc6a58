-- The kind of a field of a class, from the class's record.
use Rattle.std.proofs.Common.{◌≡◌, ℕ, ◌+◌, ◌*◌, ◌<◌, ◌≤◌, ◌&&◌, ltb, List, length, get_or, Some, None, sym, ap, ◌∙◌, arith}
use Rattle.std.proofs.lemmas.Bool.{cond-true, cond-false, lt-ltb, le-ltb, and_from, and_right}
use Rattle.kinds.specs.declared.kind.Kind.{Kind}
use Rattle.kinds.specs.declared.kind.Kind.TheVariants.{Int}
use Rattle.format.specs.Parts.{Parts, ClassParts, class_of, field_count, field_of}
use Rattle.format.specs.Decoding.{class_at, kind_at}
use Rattle.format.specs.Tests.{count_at}
use Rattle.format.proofs.Views.{length_tabulate, get_d_tabulate}
use Rattle.unit.specs.Model.{field_in}

module _ (p : Parts) (bs : List ℕ) (at c k : ℕ) (here : class_of p c ≡ class_at bs at) where
  count_here : field_count p c ≡ count_at bs at
  count_here =
      ap (λ (x : ClassParts). length x.fields) here ∙ length_tabulate (count_at bs at) (λ j. kind_at bs (at + 3 + 2 * j))

  pub field_past : count_at bs at ≤ k → None ≡ field_in p c k
  field_past l =
      sym (cond-false (ltb c (length p.classes) && ltb k (field_count p c)) (Some (field_of p c k)) None
      (and_right (ltb c (length p.classes)) (ltb k (field_count p c)) (le-ltb k (field_count p c) (omega (arith, count_here)))))

  pub field_here : (x : Kind) → c < length p.classes → k < count_at bs at → x ≡ kind_at bs (at + 3 + 2 * k) → Some x ≡ field_in p c k
  field_here x l m e =
      ap Some
      (e ∙ sym (ap (λ (y : ClassParts). get_or y.fields k Int) here
      ∙ get_d_tabulate (count_at bs at) (λ j. kind_at bs (at + 3 + 2 * j)) Int k m))
      ∙ sym (cond-true (ltb c (length p.classes) && ltb k (field_count p c)) (Some (field_of p c k)) None
      (and_from (ltb c (length p.classes)) (ltb k (field_count p c)) (lt-ltb c _ l) (lt-ltb k _ (omega (arith, count_here)))))
