-- Reading a stack, kind by kind.
use Rattle.std.proofs.Common.{◌≡◌, ℕ, zero, suc, ◌+◌, ◌-◌, ◌*◌, ◌<◌, Bool, true, false, ◌&&◌, leb, ◌≢◌, List, ◌∷◌, ◌++◌, length, get_or, Err, sym, refl, ap, ◌∙◌, subst, ⊎_elim, arith, length-append}
use Rattle.std.proofs.Math.Bool.{and-false}
use Rattle.std.proofs.lemmas.Bool.{cases_eq, and_from}
use Rattle.std.proofs.lemmas.List.{get_or_append_left, get_or-append_right}
use Rattle.kinds.specs.declared.kind.Kind.{Kind}
use Rattle.kinds.specs.Codes.{kind_of}
use Rattle.format.specs.Bytes.{byte_at, word_at}
use Rattle.format.specs.Parts.{Parts}
use Rattle.analysis_theory.specs.Methods.{ReadAs}
use Rattle.types_theory.specs.Order.{known, all_known}
use Rattle.types_theory.specs.Writing.{kinds_in, readable, stack_read}

-- the kinds so far are what the bytes say, kinds that the unit has, and the codes of the others are left
pub record ReadTo (p : Parts) (bs : List ℕ) (d : ℕ) (ks : List Kind) (rest : List ℕ) : Type 0 where
  pub said : ks ≡ kinds_in bs (length ks)
  pub had : all_known p (kinds_in bs (length ks)) ≡ true
  pub count : 2 * length ks + length rest ≡ 2 * d
  pub behind : (k : ℕ) → k < length rest → get_or rest k 0 ≡ byte_at bs (1 + 2 * length ks + k)

-- one kind that the unit has not spoils the stack
unknown : (p : Parts) (bs : List ℕ) (n i : ℕ) → i < n → known p (kind_of (word_at bs (1 + 2 * i))) ≡ false → all_known p (kinds_in bs n) ≡ false
unknown p bs zero i l h = absurd (omega arith)
unknown p bs (suc n) i l h =
    ⊎_elim
    (λ (e : i ≡ n). rw (subst (λ (m : ℕ). known p (kind_of (word_at bs (1 + 2 * m))) ≡ false) e h) refl)
    (λ (ne : i ≢ n). rw (unknown p bs n i (omega arith) h) (and-false (known p (kind_of (word_at bs (1 + 2 * n))))))
    (cases_eq i n)

unreadable : (a b c : Bool) → (a && (b && (c && false))) ≡ false
unreadable true true c = and-false c
unreadable true false c = refl
unreadable false b c = refl

-- two bytes more, and the kind that they stand for
module _ (p : Parts) (bs : List ℕ) (d : ℕ) (ks : List Kind) (code rest next : List ℕ) (far : ReadTo p bs d ks rest) (two : length code ≡ 2) (split : rest ≡ code ++ next) (n : ℕ) (k : Kind) (number : n ≡ get_or code 0 0 * 256 + get_or code 1 0) (kind : k ≡ kind_of n) where
  size : length rest ≡ 2 + length next
  size = omega (arith, ap length split, length-append code next)

  at_code : (j : ℕ) → j < 2 → get_or code j 0 ≡ byte_at bs (1 + 2 * length ks + j)
  at_code j l =
      let s = size in
      sym (get_or_append_left code next 0 j (omega arith)) ∙ ap (λ xs. get_or xs j 0) (sym split) ∙ far.behind j (omega arith)

  kind_read : k ≡ kind_of (word_at bs (1 + 2 * length ks))
  kind_read =
      let first : get_or code 0 0 ≡ byte_at bs (1 + 2 * length ks) =
      at_code 0 (omega arith) ∙ ap (byte_at bs) (let e : 1 + 2 * length ks + 0 ≡ 1 + 2 * length ks = omega arith in e) in
      let second = at_code 1 (omega arith) in
      kind ∙ ap kind_of number ∙ ap (λ x. kind_of (x * 256 + get_or code 1 0)) first
      ∙ ap (λ x. kind_of (byte_at bs (1 + 2 * length ks) * 256 + x)) second

  pub read_more : known p k ≡ true → ReadTo p bs d (k ∷ ks) next
  read_more had =
      let c = far.count in
      let s = size in
      record {
        said = ap (λ xs. k ∷ xs) far.said ∙ ap (λ x. x ∷ kinds_in bs (length ks)) kind_read;
        had = and_from _ _ (subst (λ x. known p x ≡ true) kind_read had) far.had;
        count = omega arith;
        behind = λ j m.
            ap (λ i. get_or next i 0) (let q : j ≡ 2 + j - length code = omega arith in q)
            ∙ sym (get_or-append_right code next (length code) (2 + j) 0 refl (omega arith))
            ∙ ap (λ xs. get_or xs (2 + j) 0) (sym split)
            ∙ far.behind (2 + j) (omega arith)
            ∙ ap (byte_at bs) (let q : 1 + 2 * length ks + (2 + j) ≡ 1 + 2 * suc (length ks) + j = omega arith in q);
      }

  pub unread : d ≡ byte_at bs 0 → known p k ≡ false → ReadAs (stack_read p bs) (Err (record { layer = 1 }))
  unread e h =
      let c = far.count in
      let s = size in
      let spoilt = unknown p bs (byte_at bs 0) (length ks) (omega arith) (subst (λ x. known p x ≡ false) kind_read h) in
      let failed : readable p bs (byte_at bs 0) ≡ false =
      rw spoilt (unreadable (leb 1 (length bs)) (leb (byte_at bs 0) p.depth) (leb (1 + 2 * byte_at bs 0) (length bs))) in
      rw failed refl
