-- The parts of a unit: what its bytes say, as plain data.
use Rattle.std.specs.Prelude.{ℕ, cond, List, [], length, Some, None, Option, nat_lt, slice_index_or}
use Rattle.kinds.specs.declared.kind.Kind.{Kind}
use Rattle.kinds.specs.declared.kind.Kind.TheVariants.{Int}
use Rattle.opcodes.specs.declared.opcode.Instruction.{Instruction}
use Rattle.opcodes.specs.declared.opcode.Opcode.TheVariants.{Push}

-- a class: the number of its parent, and the kinds of its fields, its parent's first
pub record ClassParts : Type 0 where
  pub parent : ℕ
  pub fields : List Kind

-- the greatest operand depth, the classes by number, the kinds of the slots, the instructions
pub record Parts : Type 0 where
  pub depth : ℕ
  pub classes : List ClassParts
  pub slots : List Kind
  pub code : List Instruction

-- x where i is below n, else nothing
abbrev pub within : {A : Type 0} → ℕ → ℕ → A → Option A
within i n x = cond (nat_lt i n) (Some x) None

abbrev pub no_class : ClassParts
no_class = record { parent = 0; fields = [] }

abbrev pub no_instruction : Instruction
no_instruction = record { opcode = Push; operand = 0 }

abbrev pub class_of : Parts → ℕ → ClassParts
class_of p c = slice_index_or p.classes c no_class

abbrev pub parent_of : Parts → ℕ → ℕ
parent_of p c = (class_of p c).parent

abbrev pub fields_of : Parts → ℕ → List Kind
fields_of p c = (class_of p c).fields

abbrev pub field_count : Parts → ℕ → ℕ
field_count p c = length (fields_of p c)

-- the kind of field k of class c
abbrev pub field_of : Parts → ℕ → ℕ → Kind
field_of p c k = slice_index_or (fields_of p c) k Int

abbrev pub slot_of : Parts → ℕ → Kind
slot_of p i = slice_index_or p.slots i Int

abbrev pub instruction_of : Parts → ℕ → Instruction
instruction_of p i = slice_index_or p.code i no_instruction
