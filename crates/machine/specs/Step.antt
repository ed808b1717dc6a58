-- One step of the tagged machine, with every check in its order: fault 7 outside the code; fault 1 too few operands; fault 3
-- an operand, from the top, that does not conform; fault 4 load of an unset slot; fault 5 post with a row held; fault 6 return
-- with none held; the stops; fault 2 deeper than the head allows.
use Rattle.std.specs.Prelude.{ℕ, zero, suc, ◌+◌, ◌/◌, ◌%◌, Bool, true, false, cond, List, [], ◌∷◌, ◌++◌, map, length, ℤ, pos, negsuc, ◌+ℤ◌, Some, None, Option, ◌==◌, int_lt, nat_le, nat_lt, slice_index_or, slice_set}
use Rattle.std.proofs.Common.{to_z}
use Rattle.std.specs.Int.{int_wrap, w16, w32}
use Rattle.kinds.specs.declared.kind.Kind.{Kind}
use Rattle.kinds.specs.declared.kind.Kind.TheVariants.{Int, Null, Unusable, Class}
use Rattle.opcodes.specs.declared.opcode.Opcode.{Opcode}
use Rattle.opcodes.specs.declared.opcode.Opcode.TheVariants.{Push, Nil, Load, Store, Drop, Add, Less, Jump, Branch, Brnull, New, Get, Put, Post, Return}
use Rattle.opcodes.specs.declared.opcode.Shape.{Shape}
use Rattle.opcodes.specs.declared.opcode.Shape.TheVariants.{Int as AnInt, Null as ANull, Ref as ARef, Any as AnyValue, OfSlot, OfClass, OfOwner, OfField}
use Rattle.opcodes.specs.declared.opcode.Takes.{Takes}
use Rattle.opcodes.specs.declared.opcode.Takes.TheVariants.{Nothing, One, Two}
use Rattle.opcodes.specs.Table.{line_of}
use Rattle.format.specs.Parts.{Parts, fields_of, field_of, slot_of, instruction_of}
use Rattle.machine.specs.Values.{Value, int, ref, Object}
use Rattle.machine.specs.Conforming.{conforms, is_ref}
use Rattle.machine.specs.Configuration.{Configuration, Outcome, goes, returned, stopped, fault}

-- whether a value is what the table asks for, where the instruction's number is n
abbrev pub meets : Parts → List Object → ℕ → Shape → Value → Bool
meets p os n AnInt v = conforms p os v Int
meets p os n ANull v = conforms p os v Null
meets p os n ARef v = is_ref v
meets p os n AnyValue v = true
meets p os n OfSlot v = conforms p os v (slot_of p n)
meets p os n OfClass v = conforms p os v (Class n)
meets p os n OfOwner v = conforms p os v (Class (n / 8))
meets p os n OfField v = conforms p os v (field_of p (n / 8) (n % 8))

-- what an instruction finds on the stack: too few, one at a distance from the top that it can't take, or what it takes, the
-- top first, and the rest
pub data Found : Type 0 where
  few : Found
  wrong : ℕ → Found
  took : List Value → List Value → Found

abbrev pub finds : Parts → List Object → ℕ → Takes → List Value → Found
finds p os n Nothing vs = took [] vs
finds p os n (One a) [] = few
finds p os n (One a) (v ∷ vs) = cond (meets p os n a v) (took (v ∷ []) vs) (wrong 0)
finds p os n (Two a b) [] = few
finds p os n (Two a b) (v ∷ []) = few
finds p os n (Two a b) (v ∷ w ∷ vs) =
    cond (meets p os n b v) (cond (meets p os n a w) (took (v ∷ w ∷ []) vs) (wrong 1)) (wrong 0)

abbrev pub number : Value → ℤ
number (int z) = z
number (ref r) = pos 0

abbrev pub reference : Value → ℕ
reference (int z) = 0
reference (ref r) = r

-- the top one of what was taken, and the one below it
abbrev pub top : List Value → Value
top vs = slice_index_or vs 0 (int (pos 0))

abbrev pub second : List Value → Value
second vs = slice_index_or vs 1 (int (pos 0))

abbrev pub is_zero : ℤ → Bool
is_zero (pos n) = n == 0
is_zero (negsuc n) = false

-- what a field of a kind holds at first: 0 or null
abbrev pub blank : Kind → Value
blank Int = int (pos 0)
blank Null = ref 0
blank Unusable = int (pos 0)
blank (Class c) = ref 0

abbrev pub fresh : Parts → ℕ → Object
fresh p c = record { class = c; cells = map blank (fields_of p c) }

-- object i, from 0
abbrev pub object_at : List Object → ℕ → Object
object_at os i = slice_index_or os i (record { class = 0; cells = [] })

-- goes on at an instruction with these operands, all else as it was
abbrev pub goes_at : Configuration → ℕ → List Value → Configuration
goes_at c i vs = record { at = i; operands = vs; slots = c.slots; objects = c.objects; row = c.row }

abbrev pub with_slot : Configuration → ℕ → Value → Configuration
with_slot c n v = record { at = c.at; operands = c.operands; slots = slice_set c.slots n (Some v); objects = c.objects; row = c.row }

abbrev pub with_objects : Configuration → List Object → Configuration
with_objects c os = record { at = c.at; operands = c.operands; slots = c.slots; objects = os; row = c.row }

abbrev pub with_row : Configuration → ℤ → Configuration
with_row c z = record { at = c.at; operands = c.operands; slots = c.slots; objects = c.objects; row = Some z }

-- the last check: the operands are no more than the head allows
abbrev pub allowed : Parts → Configuration → Outcome
allowed p c = cond (nat_le (length c.operands) p.depth) (goes c) (fault 2)

abbrev pub next : Parts → Configuration → List Value → Outcome
next p c vs = allowed p (goes_at c (c.at + 1) vs)

abbrev pub loads : Parts → Configuration → List Value → Option Value → Outcome
loads p c vs None = fault 4
loads p c vs (Some v) = next p c (v ∷ vs)

abbrev pub posts : Parts → Configuration → List Value → ℤ → Option ℤ → Outcome
posts p c vs z None = next p (with_row c z) vs
posts p c vs z (Some b) = fault 5

abbrev pub ends : Option ℤ → Outcome
ends None = fault 6
ends (Some b) = returned b

abbrev pub gets : Parts → Configuration → ℕ → List Value → ℕ → Outcome
gets p c n vs zero = stopped 1
gets p c n vs (suc i) = next p c (slice_index_or (object_at c.objects i).cells (n % 8) (int (pos 0)) ∷ vs)

abbrev pub puts : Parts → Configuration → ℕ → List Value → Value → ℕ → Outcome
puts p c n vs v zero = stopped 1
puts p c n vs v (suc i) =
    next p (with_objects c (slice_set c.objects i (record { class = (object_at c.objects i).class; cells = slice_set (object_at c.objects i).cells (n % 8) v }))) vs

-- what an instruction does with what it took, ts, and the operands that are left, vs
abbrev pub acts : Parts → Configuration → Opcode → ℕ → List Value → List Value → Outcome
acts p c Push n ts vs = next p c (int (to_z w16 n) ∷ vs)
acts p c Nil n ts vs = next p c (ref 0 ∷ vs)
acts p c Load n ts vs = loads p c vs (slice_index_or c.slots n None)
acts p c Store n ts vs = next p (with_slot c n (top ts)) vs
acts p c Drop n ts vs = next p c vs
acts p c Add n ts vs = next p c (int (int_wrap w32 (number (second ts) +ℤ number (top ts))) ∷ vs)
acts p c Less n ts vs = next p c (int (cond (int_lt (number (second ts)) (number (top ts))) (pos 1) (pos 0)) ∷ vs)
acts p c Jump n ts vs = allowed p (goes_at c n vs)
acts p c Branch n ts vs = cond (is_zero (number (top ts))) (next p c vs) (allowed p (goes_at c n vs))
acts p c Brnull n ts vs = cond (reference (top ts) == 0) (allowed p (goes_at c n vs)) (next p c vs)
acts p c New n ts vs =
    cond (nat_le 32 (length c.objects)) (stopped 2)
    (next p (with_objects c (c.objects ++ (fresh p n ∷ []))) (ref (length c.objects + 1) ∷ vs))
acts p c Get n ts vs = gets p c n vs (reference (top ts))
acts p c Put n ts vs = puts p c n vs (top ts) (reference (second ts))
acts p c Post n ts vs = posts p c vs (number (top ts)) c.row
acts p c Return n ts vs = ends c.row

abbrev pub does : Parts → Configuration → Opcode → ℕ → Found → Outcome
does p c o n few = fault 1
does p c o n (wrong d) = fault 3
does p c o n (took ts vs) = acts p c o n ts vs

abbrev pub step : Parts → Configuration → Outcome
step p c =
    cond (nat_lt c.at (length p.code))
    (does p c (instruction_of p c.at).opcode (instruction_of p c.at).operand
    (finds p c.objects (instruction_of p c.at).operand (line_of (instruction_of p c.at).opcode).takes c.operands))
    (fault 7)
