-- What an accepted instruction finds on the stack of the machine: operands that are what the table asks for.
use Rattle.std.proofs.Common.{◌≡◌, ℕ, ◌≤◌, Bool, true, false, cond, leb, List, [], ◌∷◌, length, Ok, Err, Option, Result, refl, subst, arith, leb-true}
use Rattle.std.proofs.lemmas.Bool.{false≢true}
use Rattle.kinds.specs.declared.kind.Kind.{Kind}
use Rattle.opcodes.specs.declared.opcode.Shape.{Shape}
use Rattle.opcodes.specs.declared.opcode.Takes.TheVariants.{One, Two}
use Rattle.format.specs.Parts.{Parts}
use Rattle.lattice.specs.Order.{Lower}
use Rattle.machine.specs.Values.{Value, Object}
use Rattle.machine.specs.Step.{Found, took, wrong, finds, meets}
use Rattle.analysis_theory.specs.declared.fault.Cause.{Cause}
use Rattle.analysis_theory.specs.declared.fault.Cause.TheVariants.{TooDeep, Misfit}
use Rattle.types_theory.specs.Effect.{suits, taken, left, type_fault, then_leaves}
use Rattle.types_theory.specs.Description.{LeadsTo, FitAll, none, more}
use Rattle.types_theory.proofs.Effects.{test_passed}
use Rattle.types_theory.proofs.Fitting.{meets_suited}

-- an accepted instruction took its operands, and what it leaves is no deeper than the head allows
pub record Accepted (p : Parts) (n : ℕ) (s : Option Shape) (r : Result (List Kind) Cause) (ls : List Kind) : Type 0 where
  pub rest : List Kind
  pub took_rest : r ≡ Ok rest
  pub is_left : left p n s rest ≡ ls
  pub is_shallow : length ls ≤ p.depth

pub accepted : (p : Parts) (n : ℕ) (s : Option Shape) (r : Result (List Kind) Cause) (ls : List Kind) → then_leaves p n s r ≡ Ok ls → Accepted p n s r ls
accepted p n s (Ok rest) ls e =
    let u = test_passed (leb (length (left p n s rest)) p.depth) (Ok (left p n s rest)) (Err (type_fault TooDeep)) (type_fault TooDeep) ls refl e in
    let q : left p n s rest ≡ ls = grind arith in
    record { rest = rest; took_rest = refl; is_left = q; is_shallow = subst (λ (ks : List Kind). length ks ≤ p.depth) q (leb-true _ _ u.0) }
accepted p n s (Err c) ls e = absurd (grind arith)

-- an operand that was taken
pub record Operand (p : Parts) (os : List Object) (n : ℕ) (a : Shape) (v : Value) : Type 0 where
  pub met : meets p os n a v ≡ true
  pub leading : LeadsTo (length os) v

module _ (p : Parts) (low : Lower p) (os : List Object) (n : ℕ) (Q : Found → Type 0) where
  one_found : (b : Bool) (f g : Found) → b ≡ true → Q f → Q (cond b f g)
  one_found true f g e q = q
  one_found false f g e q = absurd (false≢true e)

  -- of one operand
  pub take_one_sound : (a : Shape) {vs : List Value} {ks : List Kind} (rest : List Kind) → FitAll p os vs ks → taken p n (One a) ks ≡ Ok rest → ((v : Value) (ws : List Value) → Operand p os n a v → FitAll p os ws rest → Q (took (v ∷ []) ws)) → Q (finds p os n (One a) vs)
  take_one_sound a rest none e then = absurd (grind arith)
  take_one_sound a rest (more {v = v} {k = k} {vs = ws} {ks = ks} f g) e then =
      let u = test_passed (suits p n a k) (Ok ks) (Err (Misfit 0)) (Misfit 0) rest refl e in
      let m = meets_suited p low os n a v k u.0 f in
      let q : ks ≡ rest = grind arith in
      one_found (meets p os n a v) (took (v ∷ []) ws) (wrong 0) m
      (then v ws (record { met = m; leading = f.leading }) (subst (FitAll p os ws) q g))

  -- of two operands, the second one on top
  pub take_two : (a b : Shape) {vs : List Value} {ks : List Kind} (rest : List Kind) → FitAll p os vs ks → taken p n (Two a b) ks ≡ Ok rest → ((v w : Value) (ws : List Value) → Operand p os n b v → Operand p os n a w → FitAll p os ws rest → Q (took (v ∷ w ∷ []) ws)) → Q (finds p os n (Two a b) vs)
  take_two a b rest none e then = absurd (grind arith)
  take_two a b rest (more f none) e then = absurd (grind arith)
  take_two a b rest (more {v = v} {k = k} f (more {v = w} {k = j} {vs = ws} {ks = ks} g h)) e then =
      let u = test_passed (suits p n b k) (cond (suits p n a j) (Ok ks) (Err (Misfit 1))) (Err (Misfit 0)) (Misfit 0) rest refl e in
      let x = test_passed (suits p n a j) (Ok ks) (Err (Misfit 1)) (Misfit 1) rest refl u.1 in
      let m = meets_suited p low os n b v k u.0 f in
      let o = meets_suited p low os n a w j x.0 g in
      let q : ks ≡ rest = grind arith in
      one_found (meets p os n b v) (cond (meets p os n a w) (took (v ∷ w ∷ []) ws) (wrong 1)) (wrong 0) m
      (one_found (meets p os n a w) (took (v ∷ w ∷ []) ws) (wrong 1) o
      (then v w ws (record { met = m; leading = f.leading }) (record { met = o; leading = g.leading }) (subst (FitAll p os ws) q h)))
