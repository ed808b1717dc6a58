-- Tests of states, faults and vessels that pass tell what was claimed.
use Rattle.std.proofs.Common.{◌≡◌, ℕ, ◌<◌, ◌≤◌, Bool, true, false, not, ◌&&◌, ◌||◌, eqb, ltb, leb, List, [], ◌∷◌, length, get_or, ℤ, pos, Ok, Err, Result, sym, refl, ap, ◌∙◌, ⊎_elim, arith}
use Rattle.std.proofs.lemmas.Bool.{and_parts, or_cases, eqb-true, ltb-true, leb-true, le-ltb, false≢true}
use Rattle.kinds.specs.declared.kind.Kind.{Kind}
use Rattle.kinds.specs.declared.kind.Kind.TheVariants.{Int, Null, Unusable, Class}
use Rattle.format.specs.Bytes.{up_to}
use Rattle.format.specs.Parts.{Parts, field_count, field_of, slot_of}
use Rattle.format.specs.Rules.{IsClass}
use Rattle.format.proofs.Ranges.{up_to_at}
use Rattle.lattice.specs.Computing.{lies}
use Rattle.lattice.proofs.Computed.{lies_decides}
use Rattle.machine.specs.Values.{Vessel}
use Rattle.machine.specs.Runs.{Announced}
use Rattle.analysis_theory.specs.declared.both.Both.{Both}
use Rattle.analysis_theory.specs.declared.fault.Fault.{Fault}
use Rattle.analysis_theory.specs.Faults.{fault_number, fault_detail}
use Rattle.analysis_theory.specs.Pairs.{both}
use Rattle.types.specs.declared.operands.Operands.{Operands}
use Rattle.slots_theory.specs.declared.set.SlotSet.{SlotSet}
use Rattle.slots_theory.specs.Sets.{of_bits}
use Rattle.slots_theory.proofs.Same.{same_set}
use Rattle.rows_theory.specs.declared.state.RowState.{RowState}
use Rattle.rows_theory.specs.declared.state.RowState.TheVariants.{Empty, Held, Perhaps}
use Rattle.analysis_cases.specs.Claims.{Seen, seen_state}
use Rattle.cases.specs.Computed.{same_kind, same_number, tree_test}
use Rattle.analysis_cases.specs.Computed.{same_kinds, same_row, is_seen, made_as, fault_is, is_class_kind, cell_test, vessel_test}
use Rattle.cases.proofs.Sound.{same_kind_sound, same_number_sound, tree_lower}

same_kinds_sound : (js ks : List Kind) → same_kinds js ks ≡ true → js ≡ ks
same_kinds_sound [] [] t = refl
same_kinds_sound [] (k ∷ ks) t = absurd (false≢true t)
same_kinds_sound (j ∷ js) [] t = absurd (false≢true t)
same_kinds_sound (j ∷ js) (k ∷ ks) t =
    let s = and_parts (same_kind j k) (same_kinds js ks) t in
    let e = same_kind_sound j k s.0 in
    let f = same_kinds_sound js ks s.1 in
    cc

same_row_sound : (a b : RowState) → same_row a b ≡ true → a ≡ b
same_row_sound Empty Empty t = refl
same_row_sound Empty Held t = absurd (false≢true t)
same_row_sound Empty Perhaps t = absurd (false≢true t)
same_row_sound Held Empty t = absurd (false≢true t)
same_row_sound Held Held t = refl
same_row_sound Held Perhaps t = absurd (false≢true t)
same_row_sound Perhaps Empty t = absurd (false≢true t)
same_row_sound Perhaps Held t = absurd (false≢true t)
same_row_sound Perhaps Perhaps t = refl

is_seen_sound : (s : Both Operands (Both SlotSet RowState)) (t : Seen) → is_seen s t ≡ true → s ≡ seen_state t
is_seen_sound s t h =
    let u = and_parts (same_kinds s.left t.operands) (eqb s.right.left.bits (of_bits t.slots).bits && same_row s.right.right t.row) h in
    let v = and_parts (eqb s.right.left.bits (of_bits t.slots).bits) (same_row s.right.right t.row) u.1 in
    let operands = same_kinds_sound s.left t.operands u.0 in
    let slots : s.right.left ≡ of_bits t.slots = same_set s.right.left (of_bits t.slots) (eqb-true _ _ v.0) in
    let row : s.right.right ≡ t.row = same_row_sound s.right.right t.row v.1 in
    λ i. both (operands i) (both (slots i) (row i))

pub made_as_sound : (r : Result (Both Operands (Both SlotSet RowState)) Fault) (t : Seen) → made_as r t ≡ true → r ≡ Ok (seen_state t)
made_as_sound (Ok s) t h = ap Ok (is_seen_sound s t h)
made_as_sound (Err f) t h = absurd (false≢true h)

pub fault_is_sound : (r : Result (Both Operands (Both SlotSet RowState)) Fault) (l f d : ℕ) → fault_is r l f d ≡ true → (e : Fault) × (r ≡ Err e) × (e.layer ≡ l) × (fault_number e.cause ≡ f) × (fault_detail e.cause ≡ d)
fault_is_sound (Ok s) l f d h = absurd (false≢true h)
fault_is_sound (Err e) l f d h =
    let u = and_parts (eqb e.layer l) (eqb (fault_number e.cause) f && eqb (fault_detail e.cause) d) h in
    let v = and_parts (eqb (fault_number e.cause) f) (eqb (fault_detail e.cause) d) u.1 in
    (e, refl, eqb-true _ _ u.0, eqb-true _ _ v.0, eqb-true _ _ v.1)

class_kind : (k : Kind) → IsClass k → is_class_kind k ≡ true
class_kind Int h = absurd h
class_kind Null h = absurd h
class_kind Unusable h = absurd h
class_kind (Class c) h = refl

-- a cell that no int field has is 0
zero_cell : (b a : Bool) (z : ℤ) → ((b && not a) || same_number z (pos 0)) ≡ true → (b && not a) ≡ false → z ≡ pos 0
zero_cell b a z t f =
    ⊎_elim (λ (h : (b && not a) ≡ true). absurd (false≢true (sym f ∙ h))) (λ (h : same_number z (pos 0) ≡ true). same_number_sound z (pos 0) h)
    (or_cases (b && not a) (same_number z (pos 0)) t)

not_int : (b a : Bool) → a ≡ true → (b && not a) ≡ false
not_int true true e = refl
not_int true false e = absurd (false≢true e)
not_int false a e = refl

past : (b a : Bool) → b ≡ false → (b && not a) ≡ false
past true a e = absurd (false≢true (sym e))
past false a e = refl

pub vessel_announced : (p : Parts) (v : Vessel) → vessel_test p v ≡ true → Announced p v
vessel_announced p v t =
    let n = field_count p v.class in
    let a = and_parts (tree_test p) _ t in
    let b = and_parts (ltb v.class (length p.classes)) _ a.1 in
    let c = and_parts (lies p (Class v.class) (slot_of p 0)) _ b.1 in
    let d = and_parts (leb n 8) _ c.1 in
    let e = and_parts (eqb (length v.cells) 8) (up_to 8 (cell_test p v)) d.1 in
    let few : n ≤ 8 = leb-true n 8 d.0 in
    let cells : (k : ℕ) → k < 8 → cell_test p v k ≡ true = λ k l. up_to_at (cell_test p v) 8 k e.1 l in
    record {
      known = ltb-true _ _ b.0;
      fitting = (lies_decides p (tree_lower p a.0) (Class v.class) (slot_of p 0)).0 c.0;
      eight = eqb-true _ _ e.0;
      references = λ k l h.
          zero_cell (ltb k n) (is_class_kind (field_of p v.class k)) (get_or v.cells k (pos 0)) (cells k (omega arith))
          (not_int (ltb k n) (is_class_kind (field_of p v.class k)) (class_kind (field_of p v.class k) h));
      past = λ k l m.
          zero_cell (ltb k n) (is_class_kind (field_of p v.class k)) (get_or v.cells k (pos 0)) (cells k m)
          (past (ltb k n) (is_class_kind (field_of p v.class k)) (le-ltb k n l));
    }
