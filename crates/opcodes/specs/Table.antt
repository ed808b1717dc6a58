-- The opcode table: of each instruction, in the order of the numbers, its name, what it takes off the stack (the top
-- last) and leaves, what its two-byte number names, and where a run goes on after it.
use Rattle.std.specs.Prelude.{ℕ, cond, List, [], ◌∷◌, Some, None, codes, Option, Ok, Err, Result, nat_lt, slice_index_or}
use Rattle.opcodes.specs.declared.opcode.Opcode.{Opcode}
use Rattle.opcodes.specs.declared.opcode.Opcode.TheVariants.{Push, Nil, Load, Store, Drop, Add, Less, Jump as Goto, Branch, Brnull, New, Get, Put, Post, Return}
use Rattle.opcodes.specs.declared.opcode.UnknownOpcode.{UnknownOpcode}
use Rattle.opcodes.specs.declared.opcode.Shape.{Shape}
use Rattle.opcodes.specs.declared.opcode.Shape.TheVariants.{Int, Null, Ref, Any, OfSlot, OfClass, OfOwner, OfField}
use Rattle.opcodes.specs.declared.opcode.Takes.{Takes}
use Rattle.opcodes.specs.declared.opcode.Takes.TheVariants.{Nothing, One, Two}
use Rattle.opcodes.specs.declared.opcode.Sort.{Sort}
use Rattle.opcodes.specs.declared.opcode.Sort.TheVariants.{Unused, Number, Slot, Class, Field, Target}
use Rattle.opcodes.specs.declared.opcode.Ways.{Ways}
use Rattle.opcodes.specs.declared.opcode.Ways.TheVariants.{Next, Jump, Both, End}
use Rattle.opcodes.specs.Numbers.{opcode_number}

pub record Line : Type 0 where
  pub opcode : Opcode
  pub name : List ℕ
  pub takes : Takes
  pub leaves : Option Shape
  pub sort : Sort
  pub ways : Ways

abbrev pub line : Opcode → List ℕ → Takes → Option Shape → Sort → Ways → Line
line o n t l s w = record { opcode = o; name = n; takes = t; leaves = l; sort = s; ways = w }

abbrev pub table : List Line
table =
    line Push (codes "push") Nothing (Some Int) Number Next
    ∷ line Nil (codes "nil") Nothing (Some Null) Unused Next
    ∷ line Load (codes "load") Nothing (Some OfSlot) Slot Next
    ∷ line Store (codes "store") (One OfSlot) None Slot Next
    ∷ line Drop (codes "drop") (One Any) None Unused Next
    ∷ line Add (codes "add") (Two Int Int) (Some Int) Unused Next
    ∷ line Less (codes "less") (Two Int Int) (Some Int) Unused Next
    ∷ line Goto (codes "jump") Nothing None Target Jump
    ∷ line Branch (codes "branch") (One Int) None Target Both
    ∷ line Brnull (codes "brnull") (One Ref) None Target Both
    ∷ line New (codes "new") Nothing (Some OfClass) Class Next
    ∷ line Get (codes "get") (One OfOwner) (Some OfField) Field Next
    ∷ line Put (codes "put") (Two OfOwner OfField) None Field Next
    ∷ line Post (codes "post") (One Int) None Unused Next
    ∷ line Return (codes "return") Nothing None Unused End
    ∷ []

-- the line of a number below 15
abbrev pub line_at : ℕ → Line
line_at n = slice_index_or table n (line Push [] Nothing None Unused Next)

-- the line of an instruction
abbrev pub line_of : Opcode → Line
line_of o = line_at (opcode_number o)

-- the instruction of a number below 15
abbrev pub opcode_at : ℕ → Opcode
opcode_at n = (line_at n).opcode

-- the instruction of a number, and none from 15 on
abbrev pub opcode_of : ℕ → Option Opcode
opcode_of n = cond (nat_lt n 15) (Some (opcode_at n)) None

-- the same, with the number beside where there is none
abbrev pub or_unknown : ℕ → Option Opcode → Result Opcode UnknownOpcode
or_unknown n (Some o) = Ok o
or_unknown n None = Err (record { byte = n })

abbrev pub numbered : ℕ → Result Opcode UnknownOpcode
numbered n = or_unknown n (opcode_of n)
