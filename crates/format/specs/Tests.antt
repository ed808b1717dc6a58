-- The rules of a unit as tests on its bytes, one for each record.
use Rattle.std.specs.Prelude.{ℕ, ◌+◌, ◌*◌, ◌/◌, ◌%◌, Bool, true, cond, ◌&&◌, ◌||◌, List, ◌==◌, nat_eq, nat_le, nat_lt}
use Rattle.opcodes.specs.declared.opcode.Sort.{Sort}
use Rattle.opcodes.specs.declared.opcode.Sort.TheVariants.{Unused, Number, Slot, Class, Field, Target}
use Rattle.opcodes.specs.Table.{line_at}
use Rattle.format.specs.declared.layout.Layout.{Layout}
use Rattle.format.specs.declared.layout.Span.{Span}
use Rattle.format.specs.Bytes.{byte_at, word_at, up_to}

-- whether a code is that of int or of one of so many classes
abbrev pub storable : ℕ → ℕ → Bool
storable classes code = code == 65535 || nat_lt code classes

-- of the class record at a place: how many fields, and the code of field k
abbrev pub count_at : List ℕ → ℕ → ℕ
count_at bs at = byte_at bs (at + 2)

abbrev pub code_at : List ℕ → ℕ → ℕ → ℕ
code_at bs at k = word_at bs (at + 3 + 2 * k)

-- field k of the record: int or a class where there is such a field, else 0000
abbrev pub field_readable : List ℕ → ℕ → ℕ → ℕ → Bool
field_readable bs classes at k = cond (nat_lt k (count_at bs at)) (storable classes (code_at bs at k)) (code_at bs at k == 0)

-- the record at a place begins with the field kinds of the one at `up`
abbrev pub extends : List ℕ → ℕ → ℕ → Bool
extends bs at up =
    nat_le (count_at bs up) (count_at bs at) && up_to (count_at bs up) (λ k. nat_eq (code_at bs at k) (code_at bs up k))

-- the root has parent 0 and no fields; any other class has a parent of lower number, which it extends
abbrev pub descends : List ℕ → ℕ → ℕ → Bool
descends bs start i =
    cond (i == 0)
    (word_at bs (start + 19 * i) == 0 && count_at bs (start + 19 * i) == 0)
    (nat_lt (word_at bs (start + 19 * i)) i && extends bs (start + 19 * i) (start + 19 * word_at bs (start + 19 * i)))

abbrev pub class_readable : List ℕ → Span → ℕ → Bool
class_readable bs s i =
    nat_le (count_at bs (s.start + 19 * i)) 8
    && (up_to 8 (field_readable bs s.count (s.start + 19 * i)) && descends bs s.start i)

-- the same in one look at each field: one of the first n, which the parent at `up` has, equals the parent's, any other is as it
-- should be
abbrev pub field_agrees : List ℕ → ℕ → ℕ → ℕ → ℕ → ℕ → Bool
field_agrees bs classes at up n k = cond (nat_lt k n) (code_at bs at k == code_at bs up k) (field_readable bs classes at k)

-- a slot is int or a class, slot 0 a class
abbrev pub slot_readable : List ℕ → ℕ → Span → ℕ → Bool
slot_readable bs classes s i =
    cond (i == 0) (nat_lt (word_at bs (s.start + 2 * i)) classes) (storable classes (word_at bs (s.start + 2 * i)))

-- what an instruction's number names exists
abbrev pub names_test : List ℕ → Layout → Sort → ℕ → Bool
names_test bs l Unused n = n == 0
names_test bs l Number n = true
names_test bs l Slot n = nat_lt n l.slots.count
names_test bs l Class n = nat_lt n l.classes.count
names_test bs l Field n =
    nat_lt (n / 8) l.classes.count && nat_lt (n % 8) (count_at bs (l.classes.start + 19 * (n / 8)))
names_test bs l Target n = nat_lt n l.code.count

abbrev pub instruction_readable : List ℕ → Layout → ℕ → Bool
instruction_readable bs l i =
    nat_lt (byte_at bs (l.code.start + 3 * i)) 15
    && names_test bs l (line_at (byte_at bs (l.code.start + 3 * i))).sort (word_at bs (l.code.start + 3 * i + 1))
