-- What an answer of a pair says of its parts.
use Rattle.std.proofs.Common.{◌≡◌, ℕ, ◌+◌, ◌⊎◌, Some, None, Ok, Err, Option, Result, refl, subst, inl, inr, arith}
use Rattle.analysis_theory.specs.declared.both.Both.{Both}
use Rattle.analysis_theory.specs.declared.fault.Fault.{Fault}
use Rattle.analysis_theory.specs.declared.fault.Unreadable.{Unreadable}
use Rattle.analysis_theory.specs.Meaning.{Got}
use Rattle.analysis_theory.specs.Laws.{Accepts}
use Rattle.analysis_theory.specs.Methods.{ReadAs}
use Rattle.analysis_theory.specs.Pairs.{both, both_join, both_after, got_both, then_read}

pub joined_parts : {A B : Type 0} (x : Option A) (y : Option B) (c : Both A B) → both_join x y ≡ Some c → (x ≡ Some c.left) × (y ≡ Some c.right)
joined_parts x y c e = (grind arith, grind arith)

pub refused_part : {A B : Type 0} (x : Option A) (y : Option B) → both_join x y ≡ None → (x ≡ None) ⊎ (y ≡ None)
refused_part x y e = grind arith

pub after_parts : {A B : Type 0} (x : Result A Fault) (y : Result B Fault) (c : Both A B) → both_after x y ≡ Ok c → (x ≡ Ok c.left) × (y ≡ Ok c.right)
after_parts x y c e = (grind arith, grind arith)

pub fault_part : {A B : Type 0} (x : Result A Fault) (y : Result B Fault) (f : Fault) → both_after x y ≡ Err f → (x ≡ Err f) ⊎ (y ≡ Err f)
fault_part x y f e = grind arith

pub accepts_both : {A B : Type 0} (x : Result A Fault) (y : Result B Fault) (P : A → Type 0) (Q : B → Type 0) (R : Both A B → Type 0) → Accepts x P → Accepts y Q → ((c : Both A B) → P c.left → Q c.right → R c) → Accepts (both_after x y) R
accepts_both (Ok a) (Ok b) P Q R h k f = f (both a b) h k
accepts_both (Ok a) (Err e) P Q R h k f = k
accepts_both (Err e) y P Q R h k f = h

-- what a pair has read, its parts have read, the right one behind the left one
pub record ReadParts {A B : Type 0} (x : Result (Got A) Unreadable) (rest : ℕ → Result (Got B) Unreadable) (g : Got (Both A B)) : Type 0 where
  pub front : ℕ
  pub back : ℕ
  pub left : x ≡ Ok (record { state = g.state.left; length = front })
  pub right : rest front ≡ Ok (record { state = g.state.right; length = back })
  pub whole : g.length ≡ front + back

got_parts : {A B : Type 0} (h : Got A) (y : Result (Got B) Unreadable) (rest : ℕ → Result (Got B) Unreadable) (g : Got (Both A B)) → rest h.length ≡ y → got_both h y ≡ Ok g → ReadParts (Ok h) rest g
got_parts h (Ok k) rest g r e =
    let s : both h.state k.state ≡ g.state = grind arith in
    let l : h.length + k.length ≡ g.length = grind arith in
    record { front = h.length; back = k.length; left = grind arith; right = grind arith; whole = grind arith }
got_parts h (Err u) rest g r e = absurd (grind arith)

pub read_parts : {A B : Type 0} (x : Result (Got A) Unreadable) (rest : ℕ → Result (Got B) Unreadable) (g : Got (Both A B)) → then_read x rest ≡ Ok g → ReadParts x rest g
read_parts (Ok h) rest g e = got_parts h (rest h.length) rest g refl e
read_parts (Err u) rest g e = absurd (grind arith)

unread_right : {A B : Type 0} (h : Got A) (y : Result (Got B) Unreadable) (u : Unreadable) → got_both {A = A} h y ≡ Err u → y ≡ Err u
unread_right h y u e = grind arith

-- what a pair does not read, one of its parts does not read
pub unread_part : {A B : Type 0} (x : Result (Got A) Unreadable) (rest : ℕ → Result (Got B) Unreadable) (u : Unreadable) → then_read x rest ≡ Err u → (x ≡ Err u) ⊎ ((n : ℕ) × (rest n ≡ Err u))
unread_part (Ok h) rest u e = inr (h.length, unread_right h (rest h.length) u e)
unread_part (Err v) rest u e = inl (grind arith)

-- what both parts have read, the pair has read
pub both_read : {A B : Type 0} (x : Result (Got A) Unreadable) (rest : ℕ → Result (Got B) Unreadable) (a : A) (n : ℕ) (b : B) (m : ℕ) → ReadAs x (Ok (a, n)) → ReadAs (rest n) (Ok (b, m)) → ReadAs (then_read x rest) (Ok (both a b, n + m))
both_read {B = B} (Ok g) rest a n b m h k =
    let s : a ≡ g.state = grind arith in
    let l : n ≡ g.length = grind arith in
    right (rest g.length) (subst (λ (i : ℕ). ReadAs (rest i) (Ok (b, m))) l k) s l
  where
    right : (y : Result (Got B) Unreadable) → ReadAs y (Ok (b, m)) → a ≡ g.state → n ≡ g.length → ReadAs (got_both g y) (Ok (both a b, n + m))
    right (Ok f) h s l =
        let t : b ≡ f.state = grind arith in
        let j : m ≡ f.length = grind arith in
        cc
    right (Err u) h s l = absurd (grind arith)
both_read (Err u) rest a n b m h k = absurd (grind arith)

-- what the right part has not read, the pair has not read
pub right_unread : {A B : Type 0} (x : Result (Got A) Unreadable) (rest : ℕ → Result (Got B) Unreadable) (a : A) (n : ℕ) (u : Unreadable) → ReadAs x (Ok (a, n)) → ReadAs (rest n) (Err u) → ReadAs (then_read x rest) (Err u)
right_unread {B = B} (Ok g) rest a n u h k =
    let l : n ≡ g.length = grind arith in
    right (rest g.length) (subst (λ (i : ℕ). ReadAs (rest i) (Err u)) l k)
  where
    right : (y : Result (Got B) Unreadable) → ReadAs y (Err u) → ReadAs (got_both g y) (Err u)
    right (Ok f) h = absurd (grind arith)
    right (Err v) h = let e : u ≡ v = grind arith in cc
right_unread (Err v) rest a n u h k = absurd (grind arith)
