-- Marking the targets of one instruction after another.
use Rattle.std.proofs.Common.{◌≡◌, ◌⊎◌, ℕ, ◌+◌, ◌<◌, Bool, true, false, cond, ◌&&◌, ltb, List, length, get_or, set, replicate, Some, None, sym, ap, ◌∙◌, ⊎_elim, arith}
use Rattle.std.proofs.lemmas.Bool.{cases_eq}
use Rattle.std.proofs.lemmas.Grind.{common_steps, get_or-set_at}
use Rattle.opcodes.specs.declared.opcode.Instruction.{Instruction}
use Rattle.format.specs.Parts.{Parts, within, instruction_of}
use Rattle.listing.specs.Targets.{is_jump, Marked}
use Rattle.listing.proofs.Within.{some_within, none_within}

all_false : (n t : ℕ) → get_or (replicate n false) t false ≡ false
all_false n t = grind (arith, common_steps)

pub marked_none : (p : Parts) (n : ℕ) → Marked p 0 (replicate n false)
marked_none p n = record { every = λ i h. absurd (omega arith); only = λ t h. grind (arith, all_false) }

kept : (marks : List Bool) (t k : ℕ) → k < length marks → get_or marks t false ≡ true → get_or (set marks k true) t false ≡ true
kept marks t k l h = grind (arith, common_steps)

new : (marks : List Bool) (t k : ℕ) → get_or (set marks k true) t false ≡ true → (get_or marks t false ≡ true) ⊎ (t ≡ k)
new marks t k h = grind (arith, common_steps)

-- one more instruction, over jumps and targets that are any
module _ (jump : ℕ → Bool) (target : ℕ → ℕ) (n : ℕ) (marks marked : List Bool) (long : length marks ≡ 1024) (is : marked ≡ cond (jump n && ltb (target n) 1024) (set marks (target n) true) marks) where
  every_more : ((i : ℕ) → i < n → jump i ≡ true → target i < 1024 → get_or marks (target i) false ≡ true) → (i : ℕ) → i < n + 1 → jump i ≡ true → target i < 1024 → get_or marked (target i) false ≡ true
  every_more m i h g o = let e = m i in ⊎_elim (λ s. grind (arith, get_or-set_at)) (λ s. grind (arith, kept)) (cases_eq i n)

  only_more : ((t : ℕ) → get_or marks t false ≡ true → (i : ℕ) × (i < n) × (jump i ≡ true) × (target i ≡ t)) → (t : ℕ) → get_or marked t false ≡ true → (i : ℕ) × (i < n + 1) × (jump i ≡ true) × (target i ≡ t)
  only_more m t h =
      ⊎_elim (λ (o : get_or marks t false ≡ true). let k = m t o in (k.0, omega (arith, k.1), k.2, k.3))
      (λ (o : (jump n ≡ true) × (target n ≡ t)). (n, omega arith, o.0, o.1)) cases
    where
      cases : (get_or marks t false ≡ true) ⊎ ((jump n ≡ true) × (target n ≡ t))
      cases = grind (arith, new)

-- the marks after an instruction
abbrev pub after : List Bool → Instruction → List Bool
after marks i = cond (is_jump i && ltb i.operand 1024) (set marks i.operand true) marks

long_before : (marks : List Bool) (b : Bool) (k : ℕ) → length (cond b (set marks k true) marks) ≡ 1024 → length marks ≡ 1024
long_before marks b k h = grind (arith, common_steps)

-- the marks after instruction n, which is there
pub marked_more : (p : Parts) (n : ℕ) (marks marked : List Bool) (i : Instruction) → Some i ≡ within n (length p.code) (instruction_of p n) → marked ≡ after marks i → length marked ≡ 1024 → Marked p n marks → Marked p (n + 1) marked
marked_more p n marks marked i there is long m =
    let same = (some_within n (length p.code) i (instruction_of p n) there).1 in
    let a : marked ≡ after marks (instruction_of p n) = rw same at is in
    let b = long_before marks _ _ (ap length (sym a) ∙ long) in
    record {
      every = every_more (λ i. is_jump (instruction_of p i)) (λ i. (instruction_of p i).operand) n marks marked b a m.every;
      only = only_more (λ i. is_jump (instruction_of p i)) (λ i. (instruction_of p i).operand) n marks marked b a m.only;
    }

-- an instruction of the code is there
pub marked_past : (p : Parts) (n : ℕ) (marks : List Bool) → n < length p.code → None ≡ within n (length p.code) (instruction_of p n) → Marked p n marks → Marked p (n + 1) marks
marked_past p n marks l h m = let past = none_within n (length p.code) (instruction_of p n) h in absurd (omega (arith, l, past))
