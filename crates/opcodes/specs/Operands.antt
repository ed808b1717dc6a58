-- What the two-byte number of an instruction says.
use Rattle.std.specs.Prelude.{ℕ, ◌/◌, ◌%◌}
use Rattle.std.specs.Int.{w16}
use Rattle.std.proofs.Common.{to_z}
use Rattle.opcodes.specs.declared.opcode.Sort.{Sort}
use Rattle.opcodes.specs.declared.opcode.Sort.TheVariants.{Unused as NoOperand, Number as ANumber, Slot as ASlot, Class as AClass, Field as AField, Target as ATarget}
use Rattle.opcodes.specs.declared.operand.Operand.{Operand}
use Rattle.opcodes.specs.declared.operand.Operand.TheVariants.{Unused, Number, Slot, Class, Field, Target}

-- the operand of a number, where it names this sort of thing: a number is signed, of sixteen bits, and a field is eight
-- times its class plus its place there
abbrev pub operand_of : Sort → ℕ → Operand
operand_of NoOperand n = Unused
operand_of ANumber n = Number (to_z w16 n)
operand_of ASlot n = Slot n
operand_of AClass n = Class n
operand_of AField n = Field (n / 8) (n % 8)
operand_of ATarget n = Target n
