-- What is decoded is what was encoded, and only encodings are decoded.
use Rattle.std.proofs.Common.{◌≡◌, ℕ, zero, suc, ◌+◌, ◌-◌, ◌*◌, ◌/◌, ◌%◌, ◌<◌, ◌≤◌, Bool, true, false, cond, ◌&&◌, eqb, ltb, leb, List, [], ◌∷◌, ◌++◌, length, take, drop, Ok, Err, Result, sym, refl, ap, ◌∙◌, subst, ⊎_elim, append_assoc, append-nil, arith, length-append, length-drop, take-append-drop, length-take, ltb-true, lt-ltb, eq-eqb, eqb-true, le-leb, leb-true}
use lib.Seq.{drop-append-add}
use borrow.Author.Tests.{lt-leb}
use Rattle.std.proofs.lemmas.List.{get_or-append-add, take_at, drop_more, drop_all, drop-drop}
use Rattle.std.proofs.lemmas.Bool.{and_from, and_parts, cases_lt}
use Rattle.format.specs.Bytes.{AllBytes, byte_at, word_at, word, slice}
use Rattle.format.specs.Parts.{Parts}
use Rattle.format.proofs.Words.{number_of, word_of, word_below}
use Rattle.format.proofs.Slices.{slice_at, length_slice}
use Rattle.analysis_theory.specs.declared.fault.Unreadable.{Unreadable}
use Rattle.analysis_theory.specs.Meaning.{Meaning, Got}
use Rattle.analysis_theory.specs.Laws.{Laws}
use Rattle.flow_theory.specs.declared.certificate.CertificateError.{CertificateError}
use Rattle.flow_theory.specs.declared.certificate.Entry.{Entry}
use Rattle.flow_theory.specs.declared.certificate.CertificateError.TheVariants.{Framing, Number, LeftOver}
use Rattle.flow_theory.specs.Certificate.{entry_bytes, entries_bytes, certificate_bytes, Rising, none, more, headed, framed, state_in, on_front, stated, entries_from, entries_in}
use Rattle.flow_theory.proofs.Tests.{test_passed, framed_facts}

-- behind a front, bytes are found as they are
byte_behind : (front ys : List ℕ) (k : ℕ) → byte_at (front ++ ys) (length front + k) ≡ byte_at ys k
byte_behind front ys k = get_or-append-add front ys k 0

word_behind : (front ys : List ℕ) (q k : ℕ) → q ≡ length front + k → word_at (front ++ ys) q ≡ word_at ys k
word_behind front ys q k e =
    ap (word_at (front ++ ys)) e
    ∙ ap (λ x. x * 256 + byte_at (front ++ ys) (length front + k + 1)) (byte_behind front ys k)
    ∙ ap (λ n. byte_at ys k * 256 + byte_at (front ++ ys) n) (let r : length front + k + 1 ≡ length front + (k + 1) = omega arith in r)
    ∙ ap (λ x. byte_at ys k * 256 + x) (byte_behind front ys (k + 1))

slice_behind : (front ys : List ℕ) (q k n : ℕ) → q ≡ length front + k → slice (front ++ ys) q n ≡ slice ys k n
slice_behind front ys q k n e = ap (λ j. take n (drop j (front ++ ys))) e ∙ ap (take n) (drop-append-add front ys k)

module _ {S : Type 0} {p : Parts} {m : Meaning S} (laws : Laws p m) where
  -- one field in front of others, behind a front
  module _ (front rest : List ℕ) (e : Entry S) (is : m.is_state e.state ≡ true) where
    abbrev bs : List ℕ
    bs = front ++ (entry_bytes m e ++ rest)

    abbrev size : ℕ
    size = length (m.bytes e.state)

    -- the field, with its numbers written out
    abbrev field : List ℕ
    field = 18 ∷ ((2 + size) / 256) ∷ ((2 + size) % 256) ∷ (e.at / 256) ∷ (e.at % 256) ∷ (m.bytes e.state ++ rest)

    tag_is : byte_at bs (length front) ≡ 18
    tag_is = ap (byte_at bs) (let q : length front ≡ length front + 0 = omega arith in q) ∙ byte_behind front field 0

    length_is : word_at bs (length front + 1) ≡ 2 + size
    length_is = word_behind front field (length front + 1) 1 refl ∙ number_of (2 + size)

    number_is : word_at bs (length front + 3) ≡ e.at
    number_is = word_behind front field (length front + 3) 3 refl ∙ number_of e.at

    state_is : state_in bs (length front) ≡ m.bytes e.state
    state_is =
        ap (λ n. slice bs (length front + 5) (n - 2)) length_is
        ∙ slice_behind front field (length front + 5) 5 (2 + size - 2) refl
        ∙ take_at (m.bytes e.state) rest (2 + size - 2) (let q : size ≡ 2 + size - 2 = omega arith in q)

    parsed_is : m.parsed (state_in bs (length front)) ≡ Ok (record { state = e.state; length = size })
    parsed_is = ap m.parsed (state_is ∙ sym (append-nil (m.bytes e.state))) ∙ laws.reads_back e.state [] is

    whole : length bs ≡ length front + (5 + size + length rest)
    whole = length-append front field ∙ ap (λ n. length front + n) (let a = length-append (m.bytes e.state) rest in omega arith)

    framed_is : framed bs (length front) ≡ true
    framed_is =
        let w = whole in
        let l = length_is in
        and_from _ _ (le-leb (length front + 5) (length bs) (omega arith))
        (and_from _ _ (eq-eqb (byte_at bs (length front)) 18 tag_is)
        (and_from _ _ (le-leb 2 (word_at bs (length front + 1)) (omega arith))
        (le-leb (length front + 3 + word_at bs (length front + 1)) (length bs) (omega arith))))

    -- the field is read, and the rest is read behind it
    one_read : (n least : ℕ) → least ≤ e.at → e.at < length p.code → entries_from p m bs (suc n) (length front) least ≡ on_front e (entries_from p m bs n (length (front ++ entry_bytes m e)) (e.at + 1))
    one_read n least l h =
        let q = length front in
        let w = whole in
        let here : leb (length bs) q ≡ false = lt-leb (length bs) q (omega arith) in
        let numbered : (leb least (word_at bs (q + 3)) && ltb (word_at bs (q + 3)) (length p.code)) ≡ true =
        and_from _ _ (subst (λ (k : ℕ). leb least k ≡ true) (sym number_is) (le-leb least e.at l))
        (subst (λ (k : ℕ). ltb k (length p.code) ≡ true) (sym number_is) (lt-ltb e.at (length p.code) h)) in
        let used : eqb size (word_at bs (q + 1) - 2) ≡ true = eq-eqb size (word_at bs (q + 1) - 2) (let k = length_is in omega arith) in
        let behind : q + 3 + word_at bs (q + 1) ≡ length (front ++ entry_bytes m e) =
        let k = length_is in
        let a = length-append front (entry_bytes m e) in
        omega arith in
        let later = entries_from p m bs n (q + 3 + word_at bs (q + 1)) (word_at bs (q + 3) + 1) in
        ap (λ (b : Bool). cond b (Ok []) (cond (framed bs q) (cond (leb least (word_at bs (q + 3)) && ltb (word_at bs (q + 3)) (length p.code)) (stated q (word_at bs (q + 3)) (word_at bs (q + 1) - 2) (m.parsed (state_in bs q)) later) (Err (Number q))) (Err (Framing q)))) here
        ∙ ap (λ (b : Bool). cond b (cond (leb least (word_at bs (q + 3)) && ltb (word_at bs (q + 3)) (length p.code)) (stated q (word_at bs (q + 3)) (word_at bs (q + 1) - 2) (m.parsed (state_in bs q)) later) (Err (Number q))) (Err (Framing q))) framed_is
        ∙ ap (λ (b : Bool). cond b (stated q (word_at bs (q + 3)) (word_at bs (q + 1) - 2) (m.parsed (state_in bs q)) later) (Err (Number q))) numbered
        ∙ ap (λ (r : Result (Got S) Unreadable). stated q (word_at bs (q + 3)) (word_at bs (q + 1) - 2) r later) parsed_is
        ∙ ap (λ (b : Bool). cond b (on_front (record { at = word_at bs (q + 3); state = e.state }) later) (Err (LeftOver q))) used
        ∙ ap (λ (k : ℕ). on_front (record { at = word_at bs (q + 3); state = e.state }) (entries_from p m bs n k (word_at bs (q + 3) + 1))) behind
        ∙ ap (λ (k : ℕ). on_front (record { at = k; state = e.state }) (entries_from p m bs n (length (front ++ entry_bytes m e)) (k + 1))) number_is

  decoded_back : (n least : ℕ) (front : List ℕ) (es : List (Entry S)) → Rising p m least es → length es ≤ n → entries_from p m (front ++ entries_bytes m es) n (length front) least ≡ Ok es
  decoded_back zero least front [] r l =
      rw (le-leb (length (front ++ [])) (length front) (let a = length-append front [] in omega arith)) refl
  decoded_back (suc n) least front [] r l =
      rw (le-leb (length (front ++ [])) (length front) (let a = length-append front [] in omega arith)) refl
  decoded_back zero least front (e ∷ es) r l = absurd (omega arith)
  decoded_back (suc n) least front (e ∷ es) (more a b c d r) l =
      let shape : (front ++ entry_bytes m e) ++ entries_bytes m es ≡ front ++ (entry_bytes m e ++ entries_bytes m es) =
      append_assoc front (entry_bytes m e) (entries_bytes m es) in
      one_read front (entries_bytes m es) e c n least a b
      ∙ ap (λ (xs : List ℕ). on_front e (entries_from p m xs n (length (front ++ entry_bytes m e)) (e.at + 1))) (sym shape)
      ∙ ap (on_front e) (decoded_back n (e.at + 1) (front ++ entry_bytes m e) es r (omega arith))

  length_entries : (es : List (Entry S)) → length es ≤ length (entries_bytes m es)
  length_entries [] = omega arith
  length_entries (e ∷ es) =
      let a = length-append (entry_bytes m e) (entries_bytes m es) in
      let h = length_entries es in
      omega arith

  -- decoding gives back the entries that were encoded
  pub encoded_decoded : length p.code < 65536 → (es : List (Entry S)) → Rising p m 0 es → entries_in p m (certificate_bytes p m es) ≡ Ok es
  encoded_decoded few es r =
      let head = 17 ∷ (word 2 ++ word (length p.code)) in
      let xs = certificate_bytes p m es in
      let count : word_at xs 3 ≡ length p.code = number_of (length p.code) in
      let size : length xs ≡ 5 + length (entries_bytes m es) = omega arith in
      let ok : headed p xs ≡ true =
      and_from _ _ (le-leb 5 (length xs) (omega arith)) (eq-eqb (word_at xs 3) (length p.code) count) in
      ap (λ (b : Bool). cond b (entries_from p m xs (length xs) 5 0) (Err (Framing 0))) ok
      ∙ decoded_back (length xs) 0 head es r (let h = length_entries es in omega arith)

-- an entry in front of what was read
front_ok : {S : Type 0} (e : Entry S) (r : Result (List (Entry S)) CertificateError) (es : List (Entry S)) → on_front e r ≡ Ok es → (fs : List (Entry S)) × (r ≡ Ok fs) × (es ≡ e ∷ fs)
front_ok e (Ok fs) es h = (fs, refl, grind arith)
front_ok e (Err f) es h = absurd (grind arith)

-- a field that was read: the state took all of its bytes
record Stated {S : Type 0} (r : Result (Got S) Unreadable) (number size : ℕ) (rest : Result (List (Entry S)) CertificateError) (es : List (Entry S)) : Type 0 where
  state : S
  others : List (Entry S)
  got : r ≡ Ok (record { state = state; length = size })
  read_on : rest ≡ Ok others
  entries : es ≡ record { at = number; state = state } ∷ others

stated_ok : {S : Type 0} (q number size : ℕ) (r : Result (Got S) Unreadable) (rest : Result (List (Entry S)) CertificateError) (es : List (Entry S)) → stated q number size r rest ≡ Ok es → Stated r number size rest es
stated_ok q number size (Ok g) rest es h =
    let u = test_passed (eqb g.length size) (on_front (record { at = number; state = g.state }) rest) (LeftOver q) es h in
    let v = front_ok (record { at = number; state = g.state }) rest es u.1 in
    let n : g.length ≡ size = eqb-true g.length size u.0 in
    record { state = g.state; others = v.0; got = ap (λ (k : ℕ). Ok (record { state = g.state; length = k })) n; read_on = v.1; entries = v.2 }
stated_ok q number size (Err u) rest es h = absurd (grind arith)

-- five bytes from a place on
five : (bs : List ℕ) (q : ℕ) → q + 5 ≤ length bs → drop q bs ≡ byte_at bs q ∷ byte_at bs (q + 1) ∷ byte_at bs (q + 2) ∷ byte_at bs (q + 3) ∷ byte_at bs (q + 4) ∷ drop (q + 5) bs
five bs q l =
    let a = drop_more bs q 0 (omega arith) in
    let b = drop_more bs (q + 1) 0 (omega arith) in
    let c = drop_more bs (q + 1 + 1) 0 (omega arith) in
    let d = drop_more bs (q + 1 + 1 + 1) 0 (omega arith) in
    let e = drop_more bs (q + 1 + 1 + 1 + 1) 0 (omega arith) in
    let k2 : q + 1 + 1 ≡ q + 2 = omega arith in
    let k3 : q + 1 + 1 + 1 ≡ q + 3 = omega arith in
    let k4 : q + 1 + 1 + 1 + 1 ≡ q + 4 = omega arith in
    let k5 : q + 1 + 1 + 1 + 1 + 1 ≡ q + 5 = omega arith in
    a
    ∙ ap (λ xs. byte_at bs q ∷ xs) b
    ∙ ap (λ xs. byte_at bs q ∷ byte_at bs (q + 1) ∷ xs) c
    ∙ ap (λ xs. byte_at bs q ∷ byte_at bs (q + 1) ∷ byte_at bs (q + 1 + 1) ∷ xs) d
    ∙ ap (λ xs. byte_at bs q ∷ byte_at bs (q + 1) ∷ byte_at bs (q + 1 + 1) ∷ byte_at bs (q + 1 + 1 + 1) ∷ xs) e
    ∙ ap (λ k. byte_at bs q ∷ byte_at bs (q + 1) ∷ byte_at bs k ∷ byte_at bs (q + 1 + 1 + 1) ∷ byte_at bs (q + 1 + 1 + 1 + 1) ∷ drop (q + 1 + 1 + 1 + 1 + 1) bs) k2
    ∙ ap (λ k. byte_at bs q ∷ byte_at bs (q + 1) ∷ byte_at bs (q + 2) ∷ byte_at bs k ∷ byte_at bs (q + 1 + 1 + 1 + 1) ∷ drop (q + 1 + 1 + 1 + 1 + 1) bs) k3
    ∙ ap (λ k. byte_at bs q ∷ byte_at bs (q + 1) ∷ byte_at bs (q + 2) ∷ byte_at bs (q + 3) ∷ byte_at bs k ∷ drop (q + 1 + 1 + 1 + 1 + 1) bs) k4
    ∙ ap (λ k. byte_at bs q ∷ byte_at bs (q + 1) ∷ byte_at bs (q + 2) ∷ byte_at bs (q + 3) ∷ byte_at bs (q + 4) ∷ drop k bs) k5

-- the two bytes of a number that they say
said_word : (bs : List ℕ) (q r : ℕ) → AllBytes bs → q + 2 ≤ length bs → q + 1 ≡ r → word (word_at bs q) ≡ byte_at bs q ∷ byte_at bs r ∷ []
said_word bs q r a l e =
    word_of (byte_at bs q) (byte_at bs (q + 1)) (a (q + 1) (omega arith)) ∙ ap (λ k. byte_at bs q ∷ byte_at bs k ∷ []) e

module _ {S : Type 0} {p : Parts} {m : Meaning S} (laws : Laws p m) (bs : List ℕ) (bytes : AllBytes bs) where
  slice_bytes : (at n : ℕ) → AllBytes (slice bs at n)
  slice_bytes at n k l =
      ⊎_elim
      (λ (h : k < n). subst (λ (x : ℕ). x < 256) (sym (slice_at bs at n k h)) (bytes (at + k) (let c = length-take n (drop at bs) in let d = length-drop at bs in omega arith)))
      (λ (h : n ≤ k). absurd (let c = length-take n (drop at bs) in omega arith))
      (cases_lt k n)

  -- one field: its bytes are those of its entry, and behind them the rest
  one_decoded : (q : ℕ) (s : S) → framed bs q ≡ true → m.parsed (state_in bs q) ≡ Ok (record { state = s; length = word_at bs (q + 1) - 2 }) → (m.is_state s ≡ true) × (length (m.bytes s) ≤ 65533) × (drop q bs ≡ entry_bytes m (record { at = word_at bs (q + 3); state = s }) ++ drop (q + 3 + word_at bs (q + 1)) bs)
  one_decoded q s f g =
      let w = framed_facts bs q f in
      let room = w.room in
      let two = w.two in
      let within = w.within in
      let n = word_at bs (q + 1) - 2 in
      let xs = state_in bs q in
      let size : length xs ≡ n = length_slice bs (q + 5) n (omega arith) in
      let r = laws.reads_only xs (record { state = s; length = n }) (slice_bytes (q + 5) n) g in
      let all : drop n xs ≡ [] = drop_all n xs (omega arith) in
      let is : xs ≡ m.bytes s = r.2 ∙ ap (λ ys. m.bytes s ++ ys) all ∙ append-nil (m.bytes s) in
      let long : n ≡ length (m.bytes s) = r.1 in
      let most : word_at bs (q + 1) < 65536 = word_below bs (q + 1) (bytes (q + 1) (omega arith)) (bytes (q + 1 + 1) (omega arith)) in
      let first : word (2 + length (m.bytes s)) ≡ byte_at bs (q + 1) ∷ byte_at bs (q + 2) ∷ [] =
      ap word (let k : 2 + length (m.bytes s) ≡ word_at bs (q + 1) = omega arith in k) ∙ said_word bs (q + 1) (q + 2) bytes (omega arith) (omega arith) in
      let then : word (word_at bs (q + 3)) ≡ byte_at bs (q + 3) ∷ byte_at bs (q + 4) ∷ [] = said_word bs (q + 3) (q + 4) bytes (omega arith) (omega arith) in
      let tail : drop (q + 5) bs ≡ m.bytes s ++ drop (q + 3 + word_at bs (q + 1)) bs =
      sym (take-append-drop n (drop (q + 5) bs)) ∙ ap (λ ys. ys ++ drop n (drop (q + 5) bs)) is
      ∙ ap (λ ys. m.bytes s ++ ys) (drop-drop n (q + 5) bs ∙ ap (λ k. drop k bs) (let k : q + 5 + n ≡ q + 3 + word_at bs (q + 1) = omega arith in k)) in (
        r.0,
        omega arith,
        five bs q room
            ∙ ap (λ x. x ∷ byte_at bs (q + 1) ∷ byte_at bs (q + 2) ∷ byte_at bs (q + 3) ∷ byte_at bs (q + 4) ∷ drop (q + 5) bs) w.tag
            ∙ ap (λ ys. 18 ∷ (ys ++ (byte_at bs (q + 3) ∷ byte_at bs (q + 4) ∷ drop (q + 5) bs))) (sym first)
            ∙ ap (λ ys. 18 ∷ (word (2 + length (m.bytes s)) ++ (ys ++ drop (q + 5) bs))) (sym then)
            ∙ ap (λ ys. 18 ∷ (word (2 + length (m.bytes s)) ++ (word (word_at bs (q + 3)) ++ ys))) tail,
      )

  -- nothing is left
  at_end : (q least : ℕ) (es : List (Entry S)) → length bs ≤ q → ◌≡◌ {A = Result (List (Entry S)) CertificateError} (Ok []) (Ok es) → (drop q bs ≡ entries_bytes m es) × Rising p m least es
  at_end q least es l e =
      let none_left : [] ≡ es = grind arith in
      subst (λ (xs : List (Entry S)). (drop q bs ≡ entries_bytes m xs) × Rising p m least xs) none_left (drop_all q bs l, none)

  -- one field, and what was read behind it
  one_more : (q least : ℕ) (es fs : List (Entry S)) (s : S) → framed bs q ≡ true → (leb least (word_at bs (q + 3)) && ltb (word_at bs (q + 3)) (length p.code)) ≡ true → m.parsed (state_in bs q) ≡ Ok (record { state = s; length = word_at bs (q + 1) - 2 }) → es ≡ record { at = word_at bs (q + 3); state = s } ∷ fs → (drop (q + 3 + word_at bs (q + 1)) bs ≡ entries_bytes m fs) × Rising p m (word_at bs (q + 3) + 1) fs → (drop q bs ≡ entries_bytes m es) × Rising p m least es
  one_more q least es fs s f t g e r =
      let entry : Entry S = record { at = word_at bs (q + 3); state = s } in
      let o = one_decoded q s f g in
      let u = and_parts (leb least (word_at bs (q + 3))) (ltb (word_at bs (q + 3)) (length p.code)) t in
      subst (λ (xs : List (Entry S)). (drop q bs ≡ entries_bytes m xs) × Rising p m least xs) (sym e) (
        o.2 ∙ ap (λ ys. entry_bytes m entry ++ ys) r.0,
        more (leb-true _ _ u.0) (ltb-true _ _ u.1) o.0 o.1 r.1,
      )

  decoded_only : (n q least : ℕ) (es : List (Entry S)) → entries_from p m bs n q least ≡ Ok es → (drop q bs ≡ entries_bytes m es) × Rising p m least es
  decoded_only zero q least es h =
      let u = test_passed (leb (length bs) q) (Ok []) (Framing q) es h in
      at_end q least es (leb-true _ _ u.0) u.1
  decoded_only (suc n) q least es h = go (leb (length bs) q) refl h (decoded_only n (q + 3 + word_at bs (q + 1)) (word_at bs (q + 3) + 1))
    where
      go : (b : Bool) → leb (length bs) q ≡ b → cond b (Ok []) (cond (framed bs q) (cond (leb least (word_at bs (q + 3)) && ltb (word_at bs (q + 3)) (length p.code)) (stated q (word_at bs (q + 3)) (word_at bs (q + 1) - 2) (m.parsed (state_in bs q)) (entries_from p m bs n (q + 3 + word_at bs (q + 1)) (word_at bs (q + 3) + 1))) (Err (Number q))) (Err (Framing q))) ≡ Ok es → ((fs : List (Entry S)) → entries_from p m bs n (q + 3 + word_at bs (q + 1)) (word_at bs (q + 3) + 1) ≡ Ok fs → (drop (q + 3 + word_at bs (q + 1)) bs ≡ entries_bytes m fs) × Rising p m (word_at bs (q + 3) + 1) fs) → (drop q bs ≡ entries_bytes m es) × Rising p m least es
      go true e k rest = at_end q least es (leb-true _ _ e) k
      go false e k rest =
          let later = entries_from p m bs n (q + 3 + word_at bs (q + 1)) (word_at bs (q + 3) + 1) in
          let x = stated q (word_at bs (q + 3)) (word_at bs (q + 1) - 2) (m.parsed (state_in bs q)) later in
          let u = test_passed (framed bs q) (cond (leb least (word_at bs (q + 3)) && ltb (word_at bs (q + 3)) (length p.code)) x (Err (Number q))) (Framing q) es k in
          let v = test_passed (leb least (word_at bs (q + 3)) && ltb (word_at bs (q + 3)) (length p.code)) x (Number q) es u.1 in
          let w = stated_ok q (word_at bs (q + 3)) (word_at bs (q + 1) - 2) (m.parsed (state_in bs q)) later es v.1 in
          one_more q least es w.others w.state u.0 v.0 w.got w.entries (rest w.others w.read_on)

  -- bytes that are decoded are the encoding of the entries, which rise
  pub decoded_encoded : (es : List (Entry S)) → entries_in p m bs ≡ Ok es → (bs ≡ certificate_bytes p m es) × Rising p m 0 es
  decoded_encoded es h =
      let u = test_passed (headed p bs) (entries_from p m bs (length bs) 5 0) (Framing 0) es h in
      let d = decoded_only (length bs) 5 0 es u.1 in
      let a = and_parts (leb 5 (length bs)) (eqb (byte_at bs 0) 17 && (eqb (word_at bs 1) 2 && eqb (word_at bs 3) (length p.code))) u.0 in
      let b = and_parts (eqb (byte_at bs 0) 17) (eqb (word_at bs 1) 2 && eqb (word_at bs 3) (length p.code)) a.1 in
      let c = and_parts (eqb (word_at bs 1) 2) (eqb (word_at bs 3) (length p.code)) b.1 in
      let room : 0 + 5 ≤ length bs = leb-true _ _ a.0 in
      let two : word 2 ≡ byte_at bs 1 ∷ byte_at bs 2 ∷ [] = ap word (sym (eqb-true (word_at bs 1) 2 c.0)) ∙ said_word bs 1 2 bytes (omega arith) refl in
      let count : word (length p.code) ≡ byte_at bs 3 ∷ byte_at bs 4 ∷ [] = ap word (sym (eqb-true (word_at bs 3) (length p.code) c.1)) ∙ said_word bs 3 4 bytes (omega arith) refl in (
        five bs 0 room
            ∙ ap (λ x. x ∷ byte_at bs 1 ∷ byte_at bs 2 ∷ byte_at bs 3 ∷ byte_at bs 4 ∷ drop 5 bs) (eqb-true _ _ b.0)
            ∙ ap (λ ys. 17 ∷ (ys ++ (byte_at bs 3 ∷ byte_at bs 4 ∷ drop 5 bs))) (sym two)
            ∙ ap (λ ys. 17 ∷ (word 2 ++ (ys ++ drop 5 bs))) (sym count)
            ∙ ap (λ ys. (17 ∷ (word 2 ++ word (length p.code))) ++ ys) d.0,
        d.1,
      )
