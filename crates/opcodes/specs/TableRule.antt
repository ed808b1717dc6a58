-- The rule that every line of the opcode table keeps, as a test that computes: the line stands at its instruction's
-- number; what its number names is a target exactly where it has a jump way; and it speaks of a slot, a class or a field
-- only where its number names one.
use Rattle.std.specs.Prelude.{ℕ, suc, Bool, true, false, not, ◌&&◌, List, [], ◌∷◌, Some, None, Option, ◌==◌}
use Rattle.opcodes.specs.declared.opcode.Shape.{Shape}
use Rattle.opcodes.specs.declared.opcode.Shape.TheVariants.{Int, Null, Ref, Any, OfSlot, OfClass, OfOwner, OfField}
use Rattle.opcodes.specs.declared.opcode.Takes.{Takes}
use Rattle.opcodes.specs.declared.opcode.Takes.TheVariants.{Nothing, One, Two}
use Rattle.opcodes.specs.declared.opcode.Sort.{Sort}
use Rattle.opcodes.specs.declared.opcode.Sort.TheVariants.{Unused, Number, Slot, Class, Field, Target}
use Rattle.opcodes.specs.declared.opcode.Ways.{Ways}
use Rattle.opcodes.specs.declared.opcode.Ways.TheVariants.{Next, Jump, Both, End}
use Rattle.opcodes.specs.Numbers.{opcode_number}
use Rattle.opcodes.specs.Table.{Line}

-- whether a run may go on at the instruction that is named
abbrev pub jumps : Ways → Bool
jumps Next = false
jumps Jump = true
jumps Both = true
jumps End = false

abbrev pub is_target : Sort → Bool
is_target Unused = false
is_target Number = false
is_target Slot = false
is_target Class = false
is_target Field = false
is_target Target = true

abbrev pub same : Bool → Bool → Bool
same true b = b
same false b = not b

-- whether a shape is clear from an instruction whose number names this sort of thing
abbrev pub named : Shape → Sort → Bool
named Int s = true
named Null s = true
named Ref s = true
named Any s = true
named OfSlot Unused = false
named OfSlot Number = false
named OfSlot Slot = true
named OfSlot Class = false
named OfSlot Field = false
named OfSlot Target = false
named OfClass Unused = false
named OfClass Number = false
named OfClass Slot = false
named OfClass Class = true
named OfClass Field = false
named OfClass Target = false
named OfOwner Unused = false
named OfOwner Number = false
named OfOwner Slot = false
named OfOwner Class = false
named OfOwner Field = true
named OfOwner Target = false
named OfField Unused = false
named OfField Number = false
named OfField Slot = false
named OfField Class = false
named OfField Field = true
named OfField Target = false

abbrev pub takes_named : Takes → Sort → Bool
takes_named Nothing s = true
takes_named (One a) s = named a s
takes_named (Two a b) s = named a s && named b s

abbrev pub leaves_named : Option Shape → Sort → Bool
leaves_named None s = true
leaves_named (Some a) s = named a s

abbrev pub line_keeps : ℕ → Line → Bool
line_keeps i l =
    (opcode_number l.opcode == i)
    && (same (is_target l.sort) (jumps l.ways) && (takes_named l.takes l.sort && leaves_named l.leaves l.sort))

abbrev pub keep_from : ℕ → List Line → Bool
keep_from i [] = true
keep_from i (l ∷ ls) = line_keeps i l && keep_from (suc i) ls

abbrev pub every_line_keeps : List Line → Bool
every_line_keeps ls = keep_from 0 ls
