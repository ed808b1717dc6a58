-- The writing of a stack of kinds is read as that stack, and no other bytes are read.
use Rattle.std.proofs.Common.{◌≡◌, ℕ, zero, suc, ◌+◌, ◌*◌, ◌/◌, ◌%◌, ◌<◌, ◌≤◌, Bool, true, false, cond, ◌&&◌, leb, List, [], ◌∷◌, ◌++◌, length, get_or, take, drop, Ok, Err, Result, sym, refl, ap, ◌∙◌, subst, append_assoc, arith, length-append, take-append-drop, ltb-true, le-leb, leb-true}
use Rattle.std.proofs.lemmas.List.{get_or-append-add, take_more}
use Rattle.std.proofs.lemmas.Bool.{and_from, and_parts}
use Rattle.kinds.specs.declared.kind.Kind.{Kind}
use Rattle.kinds.specs.declared.kind.Kind.TheVariants.{Int, Null, Unusable, Class}
use Rattle.kinds.specs.Codes.{kind_code, kind_of}
use Rattle.format.specs.Bytes.{AllBytes, byte_at, word_at, word}
use Rattle.format.specs.Parts.{Parts}
use Rattle.format.specs.Rules.{Keeps}
use Rattle.format.proofs.Words.{word_of, number_of, code_of_kind}
use Rattle.format.proofs.Storing.{class_code}
use Rattle.analysis_theory.specs.declared.fault.Unreadable.{Unreadable}
use Rattle.analysis_theory.specs.Meaning.{Got}
use Rattle.analysis_theory.proofs.Writings.{bytes_append}
use Rattle.types_theory.specs.Order.{known, all_known}
use Rattle.types_theory.specs.Writing.{codes_up, stack_bytes, kinds_in, readable, stack_read}

pub length_codes : (ks : List Kind) → length (codes_up ks) ≡ 2 * length ks
length_codes [] = refl
length_codes (k ∷ ks) = let e = length-append (codes_up ks) (word (kind_code k)) in let h = length_codes ks in omega arith

length_kinds : (bs : List ℕ) (d : ℕ) → length (kinds_in bs d) ≡ d
length_kinds bs zero = refl
length_kinds bs (suc d) = ap suc (length_kinds bs d)

-- the code of a kind that the unit has gives the kind back, in two bytes
back : (p : Parts) (k : Kind) → length p.classes ≤ 256 → known p k ≡ true → kind_of (kind_code k) ≡ k
back p Int l h = refl
back p Null l h = refl
back p Unusable l h = refl
back p (Class c) l h = class_code (length p.classes) c l (ltb-true c (length p.classes) h)

small : (p : Parts) (k : Kind) → length p.classes ≤ 256 → known p k ≡ true → kind_code k < 65536
small p Int l h = omega arith
small p Null l h = omega arith
small p Unusable l h = omega arith
small p (Class c) l h = let s = ltb-true c (length p.classes) h in omega arith

word_bytes : (n : ℕ) → n < 65536 → AllBytes (word n)
word_bytes n l zero h = omega arith
word_bytes n l (suc zero) h = omega arith
word_bytes n l (suc (suc k)) h = absurd (omega arith)

codes_bytes : (p : Parts) (ks : List Kind) → length p.classes ≤ 256 → all_known p ks ≡ true → AllBytes (codes_up ks)
codes_bytes p [] l h k m = absurd (omega arith)
codes_bytes p (x ∷ ks) l h k m =
    let u = and_parts (known p x) (all_known p ks) h in
    bytes_append (codes_up ks) (word (kind_code x)) (codes_bytes p ks l u.1) (word_bytes (kind_code x) (small p x l u.0)) k m

pub stack_bytes_are : (p : Parts) → Keeps p → (ks : List Kind) → length ks ≤ p.depth → all_known p ks ≡ true → AllBytes (stack_bytes ks)
stack_bytes_are p keeps ks l h zero m = let s = keeps.shallow in omega arith
stack_bytes_are p keeps ks l h (suc k) m = codes_bytes p ks keeps.most_classes h k (omega arith)

-- the two bytes behind a front that is as long as it should be
word_behind : (b n : ℕ) (xs rest : List ℕ) (i : ℕ) → length xs ≡ 2 * i → word_at (b ∷ (xs ++ (word n ++ rest))) (1 + 2 * i) ≡ n
word_behind b n xs rest i l =
    let ys = word n ++ rest in
    let first : byte_at (b ∷ (xs ++ ys)) (1 + 2 * i) ≡ n / 256 =
    ap (byte_at (b ∷ (xs ++ ys))) (let e : 1 + 2 * i ≡ suc (length xs + 0) = omega arith in e) ∙ get_or-append-add xs ys 0 0 in
    let then : byte_at (b ∷ (xs ++ ys)) (1 + 2 * i + 1) ≡ n % 256 =
    ap (byte_at (b ∷ (xs ++ ys))) (let e : 1 + 2 * i + 1 ≡ suc (length xs + 1) = omega arith in e) ∙ get_or-append-add xs ys 1 0 in
    let whole = number_of n in
    ap (λ x. x * 256 + byte_at (b ∷ (xs ++ ys)) (1 + 2 * i + 1)) first ∙ ap (λ x. n / 256 * 256 + x) then ∙ whole

kinds_back : (p : Parts) → length p.classes ≤ 256 → (b : ℕ) (ks : List Kind) (rest : List ℕ) → all_known p ks ≡ true → kinds_in (b ∷ (codes_up ks ++ rest)) (length ks) ≡ ks
kinds_back p l b [] rest h = refl
kinds_back p l b (k ∷ ks) rest h =
    let u = and_parts (known p k) (all_known p ks) h in
    let shape : codes_up (k ∷ ks) ++ rest ≡ codes_up ks ++ (word (kind_code k) ++ rest) = append_assoc (codes_up ks) (word (kind_code k)) rest in
    let top : kind_of (word_at (b ∷ (codes_up ks ++ (word (kind_code k) ++ rest))) (1 + 2 * length ks)) ≡ k =
    ap kind_of (word_behind b (kind_code k) (codes_up ks) rest (length ks) (length_codes ks)) ∙ back p k l u.0 in
    let below : kinds_in (b ∷ (codes_up ks ++ (word (kind_code k) ++ rest))) (length ks) ≡ ks = kinds_back p l b ks (word (kind_code k) ++ rest) u.1 in
    ap (λ xs. kinds_in (b ∷ xs) (suc (length ks))) shape ∙ cc

pub stack_read_back : (p : Parts) → Keeps p → (ks : List Kind) (rest : List ℕ) → length ks ≤ p.depth → all_known p ks ≡ true → stack_read p (stack_bytes ks ++ rest) ≡ Ok (record { state = ks; length = length (stack_bytes ks) })
stack_read_back p keeps ks rest l h =
    let bs = stack_bytes ks ++ rest in
    let same : kinds_in bs (length ks) ≡ ks = kinds_back p keeps.most_classes (length ks) ks rest h in
    let size : 1 + 2 * length ks ≡ length (stack_bytes ks) = let e = length_codes ks in omega arith in
    let room : 1 + 2 * length ks ≤ length bs = let e = length-append (codes_up ks) rest in let f = length_codes ks in omega arith in
    let some : leb 1 (length bs) ≡ true = le-leb 1 (length bs) (omega arith) in
    let ok : readable p bs (length ks) ≡ true =
    and_from _ _ some
    (and_from _ _ (le-leb (length ks) p.depth l)
    (and_from _ _ (le-leb (1 + 2 * length ks) (length bs) room) (subst (λ (js : List Kind). all_known p js ≡ true) (sym same) h))) in
    ap (λ (t : Bool). cond t (Ok (record { state = kinds_in bs (length ks); length = 1 + 2 * length ks })) (Err (record { layer = 1 }))) ok
    ∙ ap (λ (js : List Kind). Ok (record { state = js; length = 1 + 2 * length ks })) same
    ∙ ap (λ (n : ℕ). Ok (record { state = ks; length = n })) size

-- the codes of what was read are the bytes that it was read from
codes_again : (b : ℕ) (xs : List ℕ) (d : ℕ) → AllBytes (b ∷ xs) → 2 * d ≤ length xs → codes_up (kinds_in (b ∷ xs) d) ≡ take (2 * d) xs
codes_again b xs zero a l = refl
codes_again b xs (suc d) a l =
    let hi = get_or xs (2 * d) 0 in
    let lo = get_or xs (2 * d + 1) 0 in
    let first : byte_at (b ∷ xs) (1 + 2 * d) ≡ hi = ap (byte_at (b ∷ xs)) (let e : 1 + 2 * d ≡ suc (2 * d) = omega arith in e) in
    let then : byte_at (b ∷ xs) (1 + 2 * d + 1) ≡ lo = ap (byte_at (b ∷ xs)) (let e : 1 + 2 * d + 1 ≡ suc (2 * d + 1) = omega arith in e) in
    let small : lo < 256 = a (suc (2 * d + 1)) (omega arith) in
    let code : word (kind_code (kind_of (word_at (b ∷ xs) (1 + 2 * d)))) ≡ hi ∷ lo ∷ [] =
    ap word (code_of_kind (word_at (b ∷ xs) (1 + 2 * d)))
    ∙ ap (λ x. word (x * 256 + byte_at (b ∷ xs) (1 + 2 * d + 1))) first
    ∙ ap (λ x. word (hi * 256 + x)) then
    ∙ word_of hi lo small in
    let one = take_more xs (2 * d) 0 (omega arith) in
    let two = take_more xs (2 * d + 1) 0 (omega arith) in
    let count : 2 * d + 1 + 1 ≡ 2 * suc d = omega arith in
    ap (λ ys. ys ++ word (kind_code (kind_of (word_at (b ∷ xs) (1 + 2 * d))))) (codes_again b xs d a (omega arith))
    ∙ ap (λ ys. take (2 * d) xs ++ ys) code
    ∙ sym (append_assoc (take (2 * d) xs) (hi ∷ []) (lo ∷ []))
    ∙ ap (λ ys. ys ++ (lo ∷ [])) (sym one)
    ∙ sym two
    ∙ ap (λ n. take n xs) count

read_passed : (b : Bool) (x g : Got (List Kind)) → ◌≡◌ {A = Result (Got (List Kind)) Unreadable} (cond b (Ok x) (Err (record { layer = 1 }))) (Ok g) → (b ≡ true) × (x ≡ g)
read_passed true x g e = (refl, grind arith)
read_passed false x g e = absurd (grind arith)

-- what it means that a stack was read from bytes
pub record ReadFrom (p : Parts) (bs : List ℕ) (g : Got (List Kind)) : Type 0 where
  pub is_a_state : (leb (length g.state) p.depth && all_known p g.state) ≡ true
  pub size : g.length ≡ length (stack_bytes g.state)
  pub front : bs ≡ stack_bytes g.state ++ drop g.length bs

pub stack_reads_only : (p : Parts) (bs : List ℕ) (g : Got (List Kind)) → AllBytes bs → stack_read p bs ≡ Ok g → ReadFrom p bs g
stack_reads_only p [] g a e = absurd (grind arith)
stack_reads_only p (b ∷ xs) g a e =
    let bs = b ∷ xs in
    let x : Got (List Kind) = record { state = kinds_in bs b; length = 1 + 2 * b } in
    let u = read_passed (readable p bs b) x g e in
    let t = and_parts (leb 1 (length bs)) (leb b p.depth && (leb (1 + 2 * b) (length bs) && all_known p (kinds_in bs b))) u.0 in
    let v = and_parts (leb b p.depth) (leb (1 + 2 * b) (length bs) && all_known p (kinds_in bs b)) t.1 in
    let w = and_parts (leb (1 + 2 * b) (length bs)) (all_known p (kinds_in bs b)) v.1 in
    let room : 1 + 2 * b ≤ length bs = leb-true _ _ w.0 in
    let count = length_kinds bs b in
    let codes = codes_again b xs b a (omega arith) in
    let rest : drop (1 + 2 * b) bs ≡ drop (2 * b) xs = ap (λ n. drop n bs) (let q : 1 + 2 * b ≡ suc (2 * b) = omega arith in q) in
    subst (ReadFrom p bs) u.1
    (record {
      is_a_state = and_from _ _ (subst (λ (n : ℕ). leb n p.depth ≡ true) (sym count) v.0) w.1;
      size = let s = length_codes (kinds_in bs b) in omega arith;
      front =
          ap (λ ys. b ∷ ys) (sym (take-append-drop (2 * b) xs))
          ∙ ap (λ ys. b ∷ (ys ++ drop (2 * b) xs)) (sym codes)
          ∙ ap (λ n. n ∷ (codes_up (kinds_in bs b) ++ drop (2 * b) xs)) (sym count)
          ∙ ap (λ ys. length (kinds_in bs b) ∷ (codes_up (kinds_in bs b) ++ ys)) (sym rest);
    })

pub refused_layer : (p : Parts) (bs : List ℕ) (u : Unreadable) → stack_read p bs ≡ Err u → u.layer ≡ 1
refused_layer p bs u e = go (readable p bs (byte_at bs 0)) e
  where
    go : (b : Bool) → cond {A = Result (Got (List Kind)) Unreadable} b (Ok (record { state = kinds_in bs (byte_at bs 0); length = 1 + 2 * byte_at bs 0 })) (Err (record { layer = 1 })) ≡ Err u → u.layer ≡ 1
    go true h = absurd (grind arith)
    go false h = grind arith
