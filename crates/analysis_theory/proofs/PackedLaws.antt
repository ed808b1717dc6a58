-- An analysis that keeps the laws keeps them in another form too, where the form and the states determine each other.
use Rattle.std.proofs.Common.{◌≡◌, ℕ, ◌<◌, true, ◌++◌, length, drop, Some, None, Ok, Err, Option, Result, sym, refl, ap, ◌∙◌, subst, inl, inr, ⊎_elim, arith}
use Rattle.format.specs.Parts.{Parts}
use Rattle.machine.specs.Step.{step}
use Rattle.machine.specs.Runs.{start}
use Rattle.analysis_theory.specs.declared.fault.Fault.{Fault}
use Rattle.analysis_theory.specs.declared.fault.Unreadable.{Unreadable}
use Rattle.analysis_theory.specs.Meaning.{Meaning, Got}
use Rattle.analysis_theory.specs.Laws.{Laws, Accepts, Allowed}
use Rattle.analysis_theory.specs.Packed.{packed_join, packed_after, packed_read, packed_meaning}

unpack_join : {A S : Type 0} (pack : A → S) (o : Option A) (s : S) → packed_join pack o ≡ Some s → (a : A) × (o ≡ Some a) × (s ≡ pack a)
unpack_join pack (Some a) s e = (a, refl, grind arith)
unpack_join pack None s e = absurd (grind arith)

unpack_none : {A S : Type 0} (pack : A → S) (o : Option A) → packed_join pack o ≡ None → o ≡ None
unpack_none pack o e = grind arith

unpack_after : {A S : Type 0} (pack : A → S) (r : Result A Fault) (s : S) → packed_after pack r ≡ Ok s → (a : A) × (r ≡ Ok a) × (s ≡ pack a)
unpack_after pack (Ok a) s e = (a, refl, grind arith)
unpack_after pack (Err f) s e = absurd (grind arith)

unpack_fault : {A S : Type 0} (pack : A → S) (r : Result A Fault) (f : Fault) → packed_after pack r ≡ Err f → r ≡ Err f
unpack_fault pack r f e = grind arith

unpack_read : {A S : Type 0} (pack : A → S) (r : Result (Got A) Unreadable) (g : Got S) → packed_read pack r ≡ Ok g → (h : Got A) × (r ≡ Ok h) × (g.state ≡ pack h.state) × (g.length ≡ h.length)
unpack_read pack (Ok h) g e = (h, refl, grind arith, grind arith)
unpack_read pack (Err u) g e = absurd (grind arith)

unpack_unread : {A S : Type 0} (pack : A → S) (r : Result (Got A) Unreadable) (u : Unreadable) → packed_read pack r ≡ Err u → r ≡ Err u
unpack_unread pack r u e = grind arith

module _ {A S : Type 0} {p : Parts} {m : Meaning A} (view : S → A) (pack : A → S) (view_pack : (a : A) → m.is_state a ≡ true → view (pack a) ≡ a) (pack_view : (s : S) → pack (view s) ≡ s) (laws : Laws p m) where
  -- what the form of a state stands for
  viewed : (s : S) (a : A) → m.is_state a ≡ true → s ≡ pack a → view s ≡ a
  viewed s a h e = ap view e ∙ view_pack a h

  monotone_in : (i : ℕ) (a : S) (d : A) (r : Result A Fault) → m.is_state (view a) ≡ true → m.after i (view a) ≡ r → Accepts r (λ c. m.below c d ≡ true) → Accepts (packed_after pack r) (λ c. m.below (view c) d ≡ true)
  monotone_in i a d (Ok c) h e k = subst (λ (x : A). m.below x d ≡ true) (sym (view_pack c (laws.after_is_state i (view a) c h e))) k
  monotone_in i a d (Err f) h e k = k

  pub packed_laws : Laws p (packed_meaning view pack m)
  packed_laws = record {
    start_is_state = subst (λ (a : A). m.is_state a ≡ true) (sym (view_pack m.start laws.start_is_state)) laws.start_is_state;
    after_is_state = λ i s t h e.
        let u = unpack_after pack _ t e in
        let k = laws.after_is_state i (view s) u.0 h u.1 in
        subst (λ (a : A). m.is_state a ≡ true) (sym (viewed t u.0 k u.2)) k;
    join_is_state = λ a b c h k e.
        let u = unpack_join pack _ c e in
        let j = laws.join_is_state (view a) (view b) u.0 h k u.1 in
        subst (λ (x : A). m.is_state x ≡ true) (sym (viewed c u.0 j u.2)) j;
    reflexive = λ a h. laws.reflexive (view a) h;
    transitive = λ a b c h k l e f. laws.transitive (view a) (view b) (view c) h k l e f;
    antisymmetric = λ a b h k e f. sym (pack_view a) ∙ ap pack (laws.antisymmetric (view a) (view b) h k e f) ∙ pack_view b;
    above_left = λ a b c h k e.
        let u = unpack_join pack _ c e in
        let j = laws.join_is_state (view a) (view b) u.0 h k u.1 in
        subst (λ (x : A). m.below (view a) x ≡ true) (sym (viewed c u.0 j u.2)) (laws.above_left (view a) (view b) u.0 h k u.1);
    above_right = λ a b c h k e.
        let u = unpack_join pack _ c e in
        let j = laws.join_is_state (view a) (view b) u.0 h k u.1 in
        subst (λ (x : A). m.below (view b) x ≡ true) (sym (viewed c u.0 j u.2)) (laws.above_right (view a) (view b) u.0 h k u.1);
    least = λ a b c d h k l e f g.
        let u = unpack_join pack _ c e in
        let j = laws.join_is_state (view a) (view b) u.0 h k u.1 in
        subst (λ (x : A). m.below x (view d) ≡ true) (sym (viewed c u.0 j u.2))
        (laws.least (view a) (view b) u.0 (view d) h k l u.1 f g);
    refused = λ a b d h k l e f g. laws.refused (view a) (view b) (view d) h k l (unpack_none pack _ e) f g;
    falls = λ a b h k e.
        ⊎_elim
        (λ (x : view a ≡ view b). inl (sym (pack_view a) ∙ ap pack x ∙ pack_view b))
        (λ (x : m.height (view b) < m.height (view a)). inr x)
        (laws.falls (view a) (view b) h k e);
    monotone = λ i a b d h k e f.
        let u = unpack_after pack _ d f in
        let s = laws.after_is_state i (view b) u.0 k u.1 in
        subst (λ (x : A). Accepts (packed_after pack (m.after i (view a))) (λ c. m.below (view c) x ≡ true)) (sym (viewed d u.0 s u.2))
        (monotone_in i a u.0 (m.after i (view a)) h refl (laws.monotone i (view a) (view b) u.0 h k e u.1));
    describes_start = λ v a.
        subst (λ (x : A). m.describes x (start p v)) (sym (view_pack m.start laws.start_is_state)) (laws.describes_start v a);
    describes_above = λ a b c h k e f. laws.describes_above (view a) (view b) c h k e f;
    safe = λ s t c h d e.
        let u = unpack_after pack _ t e in
        let k = laws.after_is_state c.at (view s) u.0 h u.1 in
        subst (λ (x : A). Allowed m x (step p c)) (sym (viewed t u.0 k u.2)) (laws.safe (view s) u.0 c h d u.1);
    writes_bytes = λ s h. laws.writes_bytes (view s) h;
    reads_back = λ s rest h.
        ap (packed_read pack) (laws.reads_back (view s) rest h)
        ∙ ap (λ (x : S). Ok (record { state = x; length = length (m.bytes (view s)) })) (pack_view s);
    reads_only = λ bs g a e.
        let u = unpack_read pack _ g e in
        let r = laws.reads_only bs u.0 a u.1 in
        let v : view g.state ≡ u.0.state = viewed g.state u.0.state r.0 u.2 in (
          subst (λ (x : A). m.is_state x ≡ true) (sym v) r.0,
          u.3 ∙ r.1 ∙ ap (λ (x : A). length (m.bytes x)) (sym v),
          r.2 ∙ ap (λ (x : A). m.bytes x ++ drop u.0.length bs) (sym v) ∙ ap (λ (n : ℕ). m.bytes (view g.state) ++ drop n bs) (sym u.3),
        );
    layers_from_1 = laws.layers_from_1;
    fault_layer = λ i s f e. laws.fault_layer i (view s) f (unpack_fault pack _ f e);
    refusal_layer = λ bs u e. laws.refusal_layer bs u (unpack_unread pack _ u e);
  }
