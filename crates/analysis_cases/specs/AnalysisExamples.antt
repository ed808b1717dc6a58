-- What the three analyses say: of the built-in rule along the way 0, 1, 2, 3, 4, 7, 8, 9; how two of its states are written; and
-- the faults of each analysis, with the order in which they come.
use Rattle.std.specs.Prelude.{ℕ, List, [], ◌∷◌, pos}
use Rattle.kinds.specs.declared.kind.Kind.{Kind}
use Rattle.kinds.specs.declared.kind.Kind.TheVariants.{Int, Null, Unusable, Class}
use Rattle.opcodes.specs.declared.opcode.Instruction.{Instruction}
use Rattle.opcodes.specs.declared.opcode.Opcode.TheVariants.{Nil, Load, Store, Drop, Add, Less, Brnull, Get, Put, Post, Return}
use Rattle.format.specs.Example.{instruction, example_rule}
use Rattle.rows_theory.specs.declared.state.RowState.{RowState}
use Rattle.rows_theory.specs.declared.state.RowState.TheVariants.{Empty, Held, Perhaps}
use Rattle.analysis_cases.specs.Claims.{Seen, Claim, announces, makes, faults, writes}
use Rattle.cases.specs.MachineExamples.{ferry_of, rule_of}

-- these operands, slot 0 alone surely set, no row
abbrev pub seen : List Kind → Seen
seen ks = record { operands = ks; slots = 1; row = Empty }

abbrev pub with_row : List Kind → RowState → Seen
with_row ks r = record { operands = ks; slots = 1; row = r }

abbrev pub with_slots : List Kind → ℕ → Seen
with_slots ks n = record { operands = ks; slots = n; row = Empty }

-- one instruction under a head that allows so many operands
abbrev pub makes_of : ℕ → Instruction → Seen → Seen → Claim
makes_of d x s t = makes (rule_of d (x ∷ [])) 0 s t

abbrev pub faults_of : ℕ → Instruction → Seen → ℕ → ℕ → ℕ → Claim
faults_of d x s l f e = faults (rule_of d (x ∷ [])) 0 s l f e

abbrev pub analysis_examples : List Claim
analysis_examples =
    -- the built-in rule takes a ferry
    announces example_rule (ferry_of (pos 30))
    ∷ announces example_rule (ferry_of (pos 40))
    -- along the way on which the branch is taken
    ∷ makes example_rule 0 (seen []) (seen (Class 1 ∷ []))
    ∷ makes example_rule 1 (seen (Class 1 ∷ [])) (seen (Int ∷ []))
    ∷ makes example_rule 2 (seen (Int ∷ [])) (seen (Int ∷ Int ∷ []))
    ∷ makes example_rule 3 (seen (Int ∷ Int ∷ [])) (seen (Int ∷ []))
    ∷ makes example_rule 4 (seen (Int ∷ [])) (seen [])
    ∷ makes example_rule 7 (seen []) (seen (Int ∷ []))
    ∷ makes example_rule 8 (seen (Int ∷ [])) (with_row [] Held)
    ∷ makes example_rule 9 (with_row [] Held) (with_row [] Held)
    -- the states before 7 and 8, as a certificate has them
    ∷ writes example_rule (seen []) (0 ∷ 0 ∷ 0 ∷ 0 ∷ 1 ∷ 0 ∷ [])
    ∷ writes example_rule (seen (Int ∷ [])) (1 ∷ 255 ∷ 255 ∷ 0 ∷ 0 ∷ 0 ∷ 1 ∷ 0 ∷ [])
    -- kinds are written from the bottom
    ∷ writes example_rule (with_row (Class 2 ∷ Null ∷ []) Perhaps) (2 ∷ 255 ∷ 254 ∷ 0 ∷ 2 ∷ 0 ∷ 0 ∷ 0 ∷ 1 ∷ 2 ∷ [])
    -- no instruction of this number
    ∷ faults example_rule 10 (seen []) 1 7 0
    -- too few operands, before one that does not fit
    ∷ faults_of 2 (instruction Add 0) (seen []) 1 1 0
    ∷ faults_of 2 (instruction Add 0) (seen (Null ∷ [])) 1 1 0
    -- one that does not fit, from the top
    ∷ faults_of 2 (instruction Less 0) (seen (Int ∷ Null ∷ [])) 1 3 1
    ∷ faults_of 2 (instruction Less 0) (seen (Null ∷ Null ∷ [])) 1 3 0
    ∷ faults_of 2 (instruction Put 8) (seen (Null ∷ Int ∷ [])) 1 3 0
    ∷ faults_of 2 (instruction Put 8) (seen (Int ∷ Class 0 ∷ [])) 1 3 1
    -- a null owner is accepted, and gives the field's kind
    ∷ makes_of 2 (instruction Get 8) (seen (Null ∷ [])) (seen (Int ∷ []))
    -- a ref is null or a class; unusable is only dropped
    ∷ makes_of 2 (instruction Brnull 0) (seen (Class 0 ∷ [])) (seen [])
    ∷ faults_of 2 (instruction Brnull 0) (seen (Unusable ∷ [])) 1 3 0
    ∷ faults_of 2 (instruction Brnull 0) (seen (Int ∷ [])) 1 3 0
    ∷ makes_of 2 (instruction Drop 0) (seen (Unusable ∷ [])) (seen [])
    -- too many operands
    ∷ faults_of 1 (instruction Nil 0) (seen (Int ∷ [])) 1 2 0
    ∷ makes_of 2 (instruction Nil 0) (seen (Int ∷ [])) (seen (Null ∷ Int ∷ []))
    -- a slot that may be unset; types refuse before slots do
    ∷ faults_of 2 (instruction Load 1) (seen []) 2 4 1
    ∷ faults_of 0 (instruction Load 1) (seen []) 1 2 0
    ∷ makes_of 2 (instruction Load 1) (with_slots [] 3) (with_slots (Int ∷ []) 3)
    ∷ makes_of 2 (instruction Store 1) (seen (Int ∷ [])) (with_slots [] 3)
    -- a row held, or none
    ∷ faults_of 2 (instruction Post 0) (with_row (Int ∷ []) Held) 3 5 0
    ∷ faults_of 2 (instruction Post 0) (with_row (Int ∷ []) Perhaps) 3 5 0
    ∷ faults_of 2 (instruction Return 0) (with_row [] Empty) 3 6 0
    ∷ faults_of 2 (instruction Return 0) (with_row [] Perhaps) 3 6 0
    ∷ []
