-- Each claim as a test that computes.
use Rattle.std.specs.Prelude.{ℕ, nat_eq, Bool, true, false, not, ◌&&◌, ◌||◌, List, [], ◌∷◌, length, pos, Ok, Err, Result, ◌==◌, nat_le, nat_lt, slice_index_or}
use Rattle.std.specs.Cmp.Lexicographic.{pointwise}
use Rattle.kinds.specs.declared.kind.Kind.{Kind}
use Rattle.kinds.specs.declared.kind.Kind.TheVariants.{Int, Null, Unusable, Class}
use Rattle.format.specs.Bytes.{up_to}
use Rattle.format.specs.Parts.{Parts, field_count, field_of, slot_of}
use Rattle.lattice.specs.Computing.{lies}
use Rattle.machine.specs.Values.{Vessel}
use Rattle.analysis_theory.specs.declared.both.Both.{Both}
use Rattle.analysis_theory.specs.declared.fault.Fault.{Fault}
use Rattle.analysis_theory.specs.Faults.{fault_number, fault_detail}
use Rattle.types.specs.declared.operands.Operands.{Operands}
use Rattle.slots_theory.specs.declared.set.SlotSet.{SlotSet}
use Rattle.slots_theory.specs.Sets.{of_bits}
use Rattle.rows_theory.specs.declared.state.RowState.{RowState}
use Rattle.rows_theory.specs.declared.state.RowState.TheVariants.{Empty, Held, Perhaps}
use Rattle.three.specs.Meaning.{three_meaning}
use Rattle.cases.specs.Computed.{same_kind, tree_test, same_number}
use Rattle.analysis_cases.specs.Claims.{Seen, seen_state, Claim, announces, makes, faults, writes}

abbrev pub same_kinds : List Kind → List Kind → Bool
same_kinds [] [] = true
same_kinds [] (k ∷ ks) = false
same_kinds (j ∷ js) [] = false
same_kinds (j ∷ js) (k ∷ ks) = same_kind j k && same_kinds js ks

abbrev pub same_row : RowState → RowState → Bool
same_row Empty Empty = true
same_row Empty Held = false
same_row Empty Perhaps = false
same_row Held Empty = false
same_row Held Held = true
same_row Held Perhaps = false
same_row Perhaps Empty = false
same_row Perhaps Held = false
same_row Perhaps Perhaps = true

-- whether a state of the three is as it was described
abbrev pub is_seen : Both Operands (Both SlotSet RowState) → Seen → Bool
is_seen s t =
    same_kinds s.left t.operands && (s.right.left.bits == (of_bits t.slots).bits && same_row s.right.right t.row)

abbrev pub made_as : Result (Both Operands (Both SlotSet RowState)) Fault → Seen → Bool
made_as (Ok s) t = is_seen s t
made_as (Err f) t = false

abbrev pub fault_is : Result (Both Operands (Both SlotSet RowState)) Fault → ℕ → ℕ → ℕ → Bool
fault_is (Ok s) l f d = false
fault_is (Err e) l f d = e.layer == l && (fault_number e.cause == f && fault_detail e.cause == d)

abbrev pub is_class_kind : Kind → Bool
is_class_kind Int = false
is_class_kind Null = false
is_class_kind Unusable = false
is_class_kind (Class c) = true

-- whether cell k of a vessel may be what it is: an int's may, all others are 0
abbrev pub cell_test : Parts → Vessel → ℕ → Bool
cell_test p v k =
    (nat_lt k (field_count p v.class) && not (is_class_kind (field_of p v.class k))) || same_number (slice_index_or v.cells k (pos 0)) (pos 0)

abbrev pub vessel_test : Parts → Vessel → Bool
vessel_test p v =
    tree_test p
    && (nat_lt v.class (length p.classes)
    && (lies p (Class v.class) (slot_of p 0) && (nat_le (field_count p v.class) 8 && (length v.cells == 8 && up_to 8 (cell_test p v)))))

abbrev pub test : Claim → Bool
test (announces p v) = vessel_test p v
test (makes p i s t) = made_as ((three_meaning p).after i (seen_state s)) t
test (faults p i s l f d) = fault_is ((three_meaning p).after i (seen_state s)) l f d
test (writes p s bs) = pointwise nat_eq ((three_meaning p).bytes (seen_state s)) bs
