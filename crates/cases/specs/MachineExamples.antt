-- The built-in rule as the tagged machine runs it, and short rules that meet each fault, each stop, and each place where the
-- order of two checks shows.
use Rattle.std.specs.Prelude.{ℕ, List, [], ◌∷◌, ◌++◌, replicate, ℤ, pos, negsuc}
use Rattle.std.specs.List.{flat_map}
use Rattle.kinds.specs.declared.kind.Kind.TheVariants.{Class}
use Rattle.opcodes.specs.declared.opcode.Instruction.{Instruction}
use Rattle.opcodes.specs.declared.opcode.Opcode.TheVariants.{Push, Nil, Load, Store, Drop, Add, Less, Jump, Branch, Brnull, New, Get, Put, Post, Return}
use Rattle.format.specs.Parts.{Parts}
use Rattle.format.specs.Example.{class_on, instruction, example_rule}
use Rattle.machine.specs.Values.{Vessel}
use Rattle.machine.specs.Configuration.{Outcome, returned, stopped, fault}
use Rattle.cases.specs.Claims.{Claim, runs}

-- a ferry whose first cell is this
abbrev pub ferry_of : ℤ → Vessel
ferry_of z = record { class = 2; cells = z ∷ replicate 7 (pos 0) }

-- the built-in rule's classes and slots, with another depth and code; class 4 has a reference to a ferry
abbrev pub rule_of : ℕ → List Instruction → Parts
rule_of d is =
    record {
      depth = d;
      classes = example_rule.classes ++ (class_on 0 (Class 2 ∷ []) ∷ []);
      slots = example_rule.slots;
      code = is;
    }

abbrev pub runs_on : ℕ → List Instruction → ℕ → Outcome → Claim
runs_on d is n o = runs (rule_of d is) (ferry_of (pos 30)) n o

-- thirty-one objects made and dropped, so that with the vessel 32 stand and there are no operands
abbrev pub full_house : List Instruction
full_house = flat_map (λ (n : ℕ). instruction New n ∷ instruction Drop 0 ∷ []) (replicate 31 1)

abbrev pub machine_examples : List Claim
machine_examples =
    -- a ferry whose first cell is 30 gets berth 1 in 8 steps; 40 gets berth 2 in 9
    runs example_rule (ferry_of (pos 30)) 8 (returned (pos 1))
    ∷ runs example_rule (ferry_of (pos 40)) 9 (returned (pos 2))
    ∷ runs example_rule (ferry_of (negsuc 0)) 8 (returned (pos 1))
    -- each fault
    ∷ runs_on 2 (instruction Drop 0 ∷ []) 1 (fault 1)
    ∷ runs_on 1 (instruction Push 1 ∷ instruction Push 2 ∷ []) 2 (fault 2)
    ∷ runs_on 2 (instruction Nil 0 ∷ instruction Post 0 ∷ []) 2 (fault 3)
    ∷ runs_on 2 (instruction Load 1 ∷ []) 1 (fault 4)
    ∷ runs_on 2 (instruction Push 1 ∷ instruction Post 0 ∷ instruction Push 2 ∷ instruction Post 0 ∷ []) 4 (fault 5)
    ∷ runs_on 2 (instruction Return 0 ∷ []) 1 (fault 6)
    ∷ runs_on 2 (instruction Push 1 ∷ []) 2 (fault 7)
    -- each stop: a null owner; a thirty-second object beside the vessel
    ∷ runs_on 2 (instruction Nil 0 ∷ instruction Get 8 ∷ []) 2 (stopped 1)
    ∷ runs_on 2 (instruction New 1 ∷ instruction Drop 0 ∷ instruction Jump 0 ∷ []) 94 (stopped 2)
    -- too few operands goes before an operand that does not conform, and before a row held
    ∷ runs_on 2 (instruction Push 1 ∷ instruction Post 0 ∷ instruction Post 0 ∷ []) 3 (fault 1)
    ∷ runs_on 2 (instruction Nil 0 ∷ instruction Add 0 ∷ []) 2 (fault 1)
    -- an int 0 is no reference, and null is no int
    ∷ runs_on 2 (instruction Push 0 ∷ instruction Brnull 0 ∷ []) 2 (fault 3)
    ∷ runs_on 2 (instruction Nil 0 ∷ instruction Branch 0 ∷ []) 2 (fault 3)
    -- an operand that does not conform goes before a row held, and before a stop
    ∷ runs_on 2 (instruction Push 1 ∷ instruction Post 0 ∷ instruction Nil 0 ∷ instruction Post 0 ∷ []) 4 (fault 3)
    ∷ runs_on 2 (instruction Nil 0 ∷ instruction Nil 0 ∷ instruction Put 8 ∷ []) 3 (fault 3)
    -- an unset slot goes before the depth; a stop goes before the depth
    ∷ runs_on 0 (instruction Load 1 ∷ []) 1 (fault 4)
    ∷ runs_on 1 (full_house ++ (instruction Push 1 ∷ instruction New 1 ∷ [])) 64 (stopped 2)
    ∷ runs_on 0 (instruction New 1 ∷ []) 1 (fault 2)
    -- a barge may not stand where a ferry is asked for, a ferry where a vessel is may
    ∷ runs_on 2 (instruction New 4 ∷ instruction New 3 ∷ instruction Put 32 ∷ []) 3 (fault 3)
    ∷ runs_on 2 (instruction New 2 ∷ instruction Store 0 ∷ instruction Load 0 ∷ instruction Get 8 ∷ instruction Post 0 ∷ instruction Return 0 ∷ []) 6 (returned (pos 0))
    -- what is put is got; sums wrap; an operand is signed; what is below comes first
    ∷ runs_on 2 (instruction Load 0 ∷ instruction Push 65535 ∷ instruction Put 8 ∷ instruction Load 0 ∷ instruction Get 8 ∷ instruction Post 0 ∷ instruction Return 0 ∷ []) 7 (returned (negsuc 0))
    ∷ runs_on 2 (instruction Push 1 ∷ instruction Push 2 ∷ instruction Less 0 ∷ instruction Post 0 ∷ instruction Return 0 ∷ []) 5 (returned (pos 1))
    -- a return leaves operands behind; a branch on 0 goes on; null is taken by brnull
    ∷ runs_on 2 (instruction Push 5 ∷ instruction Post 0 ∷ instruction Push 1 ∷ instruction Return 0 ∷ []) 4 (returned (pos 5))
    ∷ runs_on 2 (instruction Push 0 ∷ instruction Branch 0 ∷ instruction Nil 0 ∷ instruction Brnull 5 ∷ instruction Return 0 ∷ instruction Push 7 ∷ instruction Post 0 ∷ instruction Return 0 ∷ []) 7 (returned (pos 7))
    ∷ []
