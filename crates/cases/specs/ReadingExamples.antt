-- Worked examples of reading, and of kinds.
use Rattle.std.specs.Prelude.{ℕ, List, [], ◌∷◌, ◌++◌, take, replicate}
use Rattle.kinds.specs.declared.kind.Kind.{Kind}
use Rattle.kinds.specs.declared.kind.Kind.TheVariants.{Int, Null, Unusable, Class}
use Rattle.opcodes.specs.declared.opcode.Instruction.{Instruction}
use Rattle.opcodes.specs.declared.opcode.Opcode.TheVariants.{Push, Jump}
use Rattle.format.specs.Parts.{ClassParts, Parts}
use Rattle.format.specs.Encoding.{encode}
use Rattle.format.specs.Refusals.{refusal_at}
use Rattle.format.specs.Example.{class_on, instruction, example_rule}
use Rattle.cases.specs.Claims.{Claim, reads, refuses, least}

-- the built-in rule, with one of its parts another
abbrev pub with_depth : ℕ → Parts
with_depth d = record { depth = d; classes = example_rule.classes; slots = example_rule.slots; code = example_rule.code }

abbrev pub with_classes : List ClassParts → Parts
with_classes cs = record { depth = 2; classes = cs; slots = example_rule.slots; code = example_rule.code }

abbrev pub with_slots : List Kind → Parts
with_slots ss = record { depth = 2; classes = example_rule.classes; slots = ss; code = example_rule.code }

abbrev pub with_code : List Instruction → Parts
with_code is = record { depth = 2; classes = example_rule.classes; slots = example_rule.slots; code = is }

abbrev pub vessel : Kind
vessel = Class 1

abbrev pub ferry : Kind
ferry = Class 2

abbrev pub barge : Kind
barge = Class 3

abbrev pub reading_examples : List Claim
reading_examples =
    reads example_rule 124
    ∷ reads (with_depth 16) 124
    ∷ least example_rule ferry barge vessel
    ∷ least example_rule Int ferry Unusable
    ∷ least example_rule Null ferry ferry
    ∷ least example_rule vessel ferry vessel
    -- nothing at all; one byte short; one byte over
    ∷ refuses [] (refusal_at 1 0)
    ∷ refuses (take 123 (encode example_rule)) (refusal_at 1 91)
    ∷ refuses (encode example_rule ++ (0 ∷ [])) (refusal_at 1 124)
    -- framing goes before the head
    ∷ refuses (encode (with_depth 17)) (refusal_at 2 0)
    ∷ refuses (encode (with_depth 17) ++ (0 ∷ [])) (refusal_at 1 124)
    -- a root with a field; a ferry that is its own parent; a barge without its parent's field; one without classes
    ∷ refuses (encode (with_classes (class_on 0 (Int ∷ []) ∷ []))) (refusal_at 3 0)
    ∷ refuses (encode (with_classes (class_on 0 [] ∷ class_on 0 (Int ∷ []) ∷ class_on 2 (Int ∷ []) ∷ []))) (refusal_at 3 2)
    ∷ refuses (encode (with_classes (class_on 0 [] ∷ class_on 0 (Int ∷ []) ∷ class_on 1 [] ∷ []))) (refusal_at 3 2)
    ∷ refuses (encode (with_classes [])) (refusal_at 3 0)
    -- slot 0 an int; a slot of a class that there is not; 33 slots
    ∷ refuses (encode (with_slots (Int ∷ []))) (refusal_at 4 0)
    ∷ refuses (encode (with_slots (vessel ∷ Int ∷ Class 4 ∷ []))) (refusal_at 4 2)
    ∷ refuses (encode (with_slots (replicate 33 vessel))) (refusal_at 4 0)
    -- a jump past the end; no code; 1,025 instructions
    ∷ refuses (encode (with_code (instruction Push 0 ∷ instruction Jump 2 ∷ []))) (refusal_at 5 1)
    ∷ refuses (encode (with_code [])) (refusal_at 5 0)
    ∷ refuses (encode (with_code (replicate 1025 (instruction Push 0)))) (refusal_at 5 0)
    ∷ []
