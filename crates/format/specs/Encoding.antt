-- How parts are written as bytes: four fields, each a tag, a two-byte length and its contents.
use Rattle.std.specs.Prelude.{ℕ, ◌-◌, ◌*◌, List, [], ◌∷◌, ◌++◌, length, replicate}
use Rattle.std.specs.List.{flat_map}
use Rattle.kinds.specs.declared.kind.Kind.{Kind}
use Rattle.kinds.specs.Codes.{kind_code}
use Rattle.opcodes.specs.declared.opcode.Instruction.{Instruction}
use Rattle.opcodes.specs.Numbers.{opcode_number}
use Rattle.format.specs.Bytes.{word}
use Rattle.format.specs.Parts.{ClassParts, Parts}

-- a field: its tag, its length, its contents
abbrev pub field : ℕ → List ℕ → List ℕ
field tag body = tag ∷ (word (length body) ++ body)

abbrev pub kind_bytes : Kind → List ℕ
kind_bytes k = word (kind_code k)

-- a class is 19 bytes: its parent, how many fields it has, their kinds, and 0000 for each of the eight that it has not
abbrev pub class_bytes : ClassParts → List ℕ
class_bytes c =
    word c.parent
    ++ (length c.fields ∷ (flat_map kind_bytes c.fields ++ replicate (2 * (8 - length c.fields)) 0))

-- an instruction is three bytes: its opcode's number and its operand
abbrev pub instruction_bytes : Instruction → List ℕ
instruction_bytes i = opcode_number i.opcode ∷ word i.operand

abbrev pub head_bytes : ℕ → List ℕ
head_bytes depth = 1 ∷ depth ∷ []

abbrev pub encode : Parts → List ℕ
encode p =
    field 1 (head_bytes p.depth)
    ++ (field 2 (flat_map class_bytes p.classes)
    ++ (field 3 (flat_map kind_bytes p.slots)
    ++ field 4 (flat_map instruction_bytes p.code)))
