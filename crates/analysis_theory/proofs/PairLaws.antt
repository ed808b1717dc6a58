-- A pair of analyses that keep the laws keeps them.
use Rattle.std.proofs.Common.{◌≡◌, ℕ, ◌+◌, ◌<◌, true, ◌&&◌, ◌⊎◌, List, ◌++◌, length, drop, None, Ok, Err, sym, refl, ap, ◌∙◌, inl, inr, ⊎_elim, append_assoc, arith, length-append, drop_at}
use Rattle.std.proofs.lemmas.Bool.{and_from, and_parts, or_left, or_right, or_from}
use Rattle.format.specs.Bytes.{AllBytes}
use Rattle.format.specs.Parts.{Parts}
use Rattle.machine.specs.Configuration.{Outcome, goes, returned, stopped, fault}
use Rattle.machine.specs.Step.{step}
use Rattle.analysis_theory.specs.declared.both.Both.{Both}
use Rattle.analysis_theory.specs.Meaning.{Meaning, Got}
use Rattle.analysis_theory.specs.Laws.{Laws, Allowed}
use Rattle.analysis_theory.specs.Pairs.{got_both, then_read, both_parsed, pair_meaning}
use Rattle.analysis_theory.proofs.Writings.{bytes_append, bytes_drop}
use Rattle.analysis_theory.proofs.PairParts.{joined_parts, refused_part, after_parts, fault_part, accepts_both, read_parts, unread_part}

-- a step that both parts allow, the pair allows
allowed_both : {A B : Type 0} (x : Meaning A) (y : Meaning B) (t : Both A B) (o : Outcome) → Allowed x t.left o → Allowed y t.right o → Allowed (pair_meaning x y) t o
allowed_both x y t (goes c) h k = (h, k)
allowed_both x y t (returned b) h k = tt
allowed_both x y t (stopped s) h k = tt
allowed_both x y t (fault f) h k = or_from _ _ h k

both_equal : {A B : Type 0} (a b : Both A B) → a.left ≡ b.left → a.right ≡ b.right → a ≡ b
both_equal a b h k = λ i. record { left = h i; right = k i }

module _ {A B : Type 0} {p : Parts} {x : Meaning A} {y : Meaning B} (l : Laws p x) (r : Laws p y) where
  -- what holds of both parts
  abbrev Parted : Both A B → Type 0
  Parted s = (x.is_state s.left && y.is_state s.right) ≡ true

  falls_both : (a b : Both A B) → Parted a → Parted b → (pair_meaning x y).below a b ≡ true → (a ≡ b) ⊎ ((pair_meaning x y).height b < (pair_meaning x y).height a)
  falls_both a b s t h =
      let u = and_parts _ _ s in
      let v = and_parts _ _ t in
      let w = and_parts _ _ h in
      ⊎_elim
      (λ (e : a.left ≡ b.left).
      ⊎_elim
      (λ (f : a.right ≡ b.right). inl (both_equal a b e f))
      (λ (f : y.height b.right < y.height a.right). let g = ap x.height e in inr (omega arith))
      (r.falls _ _ u.1 v.1 w.1))
      (λ (e : x.height b.left < x.height a.left).
      ⊎_elim
      (λ (f : a.right ≡ b.right). let g = ap y.height f in inr (omega arith))
      (λ (f : y.height b.right < y.height a.right). inr (omega arith))
      (r.falls _ _ u.1 v.1 w.1))
      (l.falls _ _ u.0 v.0 w.0)

  reads_back_both : (s : Both A B) (rest : List ℕ) → Parted s → both_parsed x.parsed y.parsed ((x.bytes s.left ++ y.bytes s.right) ++ rest) ≡ Ok (record { state = s; length = length (x.bytes s.left ++ y.bytes s.right) })
  reads_back_both s rest h =
      let u = and_parts _ _ h in
      let xs = x.bytes s.left in
      let ys = y.bytes s.right in
      let shape : (xs ++ ys) ++ rest ≡ xs ++ (ys ++ rest) = append_assoc xs ys rest in
      let first : x.parsed ((xs ++ ys) ++ rest) ≡ Ok (record { state = s.left; length = length xs }) =
      ap x.parsed shape ∙ l.reads_back s.left (ys ++ rest) u.0 in
      let then : y.parsed (drop (length xs) ((xs ++ ys) ++ rest)) ≡ Ok (record { state = s.right; length = length ys }) =
      ap (λ z. y.parsed (drop (length xs) z)) shape ∙ ap y.parsed (drop_at xs (ys ++ rest) (length xs) refl) ∙ r.reads_back s.right rest u.1 in
      ap (λ o. then_read o (λ n. y.parsed (drop n ((xs ++ ys) ++ rest)))) first
      ∙ ap (got_both (record { state = s.left; length = length xs })) then
      ∙ ap (λ k. Ok (record { state = s; length = k })) (sym (length-append xs ys))

  reads_only_both : (bs : List ℕ) (g : Got (Both A B)) → AllBytes bs → both_parsed x.parsed y.parsed bs ≡ Ok g → Parted g.state × (g.length ≡ length (x.bytes g.state.left ++ y.bytes g.state.right)) × (bs ≡ (x.bytes g.state.left ++ y.bytes g.state.right) ++ drop g.length bs)
  reads_only_both bs g a e =
      let k = read_parts (x.parsed bs) (λ n. y.parsed (drop n bs)) g e in
      let i = l.reads_only bs _ a k.left in
      let j = r.reads_only (drop k.front bs) _ (bytes_drop k.front bs a) k.right in
      let xs = x.bytes g.state.left in
      let ys = y.bytes g.state.right in
      let size : g.length ≡ length (xs ++ ys) = k.whole ∙ ap (λ n. n + k.back) i.1 ∙ ap (λ n. length xs + n) j.1 ∙ sym (length-append xs ys) in
      let rest = drop k.back (drop k.front bs) in
      let shape : bs ≡ (xs ++ ys) ++ rest = i.2 ∙ ap (λ z. xs ++ z) j.2 ∙ sym (append_assoc xs ys rest) in
      let tail : rest ≡ drop g.length bs = sym (ap (drop g.length) shape ∙ drop_at (xs ++ ys) rest g.length (sym size)) in
      (and_from _ _ i.0 j.0, size, shape ∙ ap (λ z. (xs ++ ys) ++ z) tail)

  pub pair_laws : Laws p (pair_meaning x y)
  pair_laws = record {
    start_is_state = and_from _ _ l.start_is_state r.start_is_state;
    after_is_state = λ i s t h e.
        let u = and_parts _ _ h in
        let k = after_parts _ _ t e in
        and_from _ _ (l.after_is_state i _ _ u.0 k.0) (r.after_is_state i _ _ u.1 k.1);
    join_is_state = λ a b c h k e.
        let u = and_parts _ _ h in
        let v = and_parts _ _ k in
        let j = joined_parts _ _ c e in
        and_from _ _ (l.join_is_state _ _ _ u.0 v.0 j.0) (r.join_is_state _ _ _ u.1 v.1 j.1);
    reflexive = λ a h. let u = and_parts _ _ h in and_from _ _ (l.reflexive _ u.0) (r.reflexive _ u.1);
    transitive = λ a b c h k m e f.
        let u = and_parts _ _ h in
        let v = and_parts _ _ k in
        let w = and_parts _ _ m in
        let i = and_parts _ _ e in
        let j = and_parts _ _ f in
        and_from _ _ (l.transitive _ _ _ u.0 v.0 w.0 i.0 j.0) (r.transitive _ _ _ u.1 v.1 w.1 i.1 j.1);
    antisymmetric = λ a b h k e f.
        let u = and_parts _ _ h in
        let v = and_parts _ _ k in
        let i = and_parts _ _ e in
        let j = and_parts _ _ f in
        both_equal a b (l.antisymmetric _ _ u.0 v.0 i.0 j.0) (r.antisymmetric _ _ u.1 v.1 i.1 j.1);
    above_left = λ a b c h k e.
        let u = and_parts _ _ h in
        let v = and_parts _ _ k in
        let j = joined_parts _ _ c e in
        and_from _ _ (l.above_left _ _ _ u.0 v.0 j.0) (r.above_left _ _ _ u.1 v.1 j.1);
    above_right = λ a b c h k e.
        let u = and_parts _ _ h in
        let v = and_parts _ _ k in
        let j = joined_parts _ _ c e in
        and_from _ _ (l.above_right _ _ _ u.0 v.0 j.0) (r.above_right _ _ _ u.1 v.1 j.1);
    least = λ a b c d h k m e f g.
        let u = and_parts _ _ h in
        let v = and_parts _ _ k in
        let w = and_parts _ _ m in
        let j = joined_parts _ _ c e in
        let i = and_parts _ _ f in
        let o = and_parts _ _ g in
        and_from _ _ (l.least _ _ _ _ u.0 v.0 w.0 j.0 i.0 o.0) (r.least _ _ _ _ u.1 v.1 w.1 j.1 i.1 o.1);
    refused = λ a b d h k m e f g.
        let u = and_parts _ _ h in
        let v = and_parts _ _ k in
        let w = and_parts _ _ m in
        let i = and_parts _ _ f in
        let o = and_parts _ _ g in
        ⊎_elim
        (λ (n : x.join a.left b.left ≡ None). l.refused _ _ _ u.0 v.0 w.0 n i.0 o.0)
        (λ (n : y.join a.right b.right ≡ None). r.refused _ _ _ u.1 v.1 w.1 n i.1 o.1)
        (refused_part _ _ e);
    falls = falls_both;
    monotone = λ i a b d h k e f.
        let u = and_parts _ _ h in
        let v = and_parts _ _ k in
        let w = and_parts _ _ e in
        let j = after_parts _ _ d f in
        accepts_both _ _ (λ c. x.below c d.left ≡ true) (λ c. y.below c d.right ≡ true)
        (λ c. (x.below c.left d.left && y.below c.right d.right) ≡ true)
        (l.monotone i _ _ _ u.0 v.0 w.0 j.0) (r.monotone i _ _ _ u.1 v.1 w.1 j.1)
        (λ c m n. and_from _ _ m n);
    describes_start = λ v a. (l.describes_start v a, r.describes_start v a);
    describes_above = λ a b c h k e f.
        let u = and_parts _ _ h in
        let v = and_parts _ _ k in
        let w = and_parts _ _ e in
        (l.describes_above _ _ c u.0 v.0 w.0 f.0, r.describes_above _ _ c u.1 v.1 w.1 f.1);
    safe = λ s t c h d e.
        let u = and_parts _ _ h in
        let k = after_parts _ _ t e in
        allowed_both x y t (step p c) (l.safe _ _ c u.0 d.0 k.0) (r.safe _ _ c u.1 d.1 k.1);
    writes_bytes = λ s h. let u = and_parts _ _ h in bytes_append _ _ (l.writes_bytes _ u.0) (r.writes_bytes _ u.1);
    reads_back = reads_back_both;
    reads_only = reads_only_both;
    layers_from_1 = or_from _ _ l.layers_from_1 r.layers_from_1;
    fault_layer = λ i s f e.
        ⊎_elim
        (λ (h : x.after i s.left ≡ Err f). or_left _ _ (l.fault_layer i _ f h))
        (λ (h : y.after i s.right ≡ Err f). or_right _ _ (r.fault_layer i _ f h))
        (fault_part _ _ f e);
    refusal_layer = λ bs u e.
        ⊎_elim
        (λ (h : x.parsed bs ≡ Err u). or_left _ _ (l.refusal_layer bs u h))
        (λ (h : (n : ℕ) × (y.parsed (drop n bs) ≡ Err u)). or_right _ _ (r.refusal_layer _ u h.1))
        (unread_part _ _ u e);
  }
