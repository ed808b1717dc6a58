-- A table of states and its marks: what they hold, and what they are filled with.
use Rattle.std.specs.Prelude.{ℕ, Bool, cond, ◌&&◌, List, [], ◌∷◌, ◌++◌, length, drop, replicate, Some, None, Err, Option, Result, ◌==◌, nat_le, slice_index_or}
use Rattle.format.specs.Parts.{Parts}
use Rattle.analysis_theory.specs.Meaning.{Meaning}
use Rattle.analysis_theory.specs.Typing.{Typing}
use Rattle.flow_theory.specs.declared.check.CheckError.{CheckError}
use Rattle.flow_theory.specs.declared.check.CheckError.TheVariants.{Sizes}
use Rattle.flow_theory.specs.Checking.{verdict}

-- the first n places hold x, and the others what they held
abbrev pub filled : {A : Type 0} → ℕ → A → List A → List A
filled n x xs = replicate n x ++ drop n xs

-- the state at each place, where its mark is not 0
abbrev pub marked : {S : Type 0} → List S → List ℕ → List (Option S)
marked [] marks = []
marked (s ∷ table) [] = []
marked (s ∷ table) (k ∷ marks) = cond (k == 0) None (Some s) ∷ marked table marks

-- a list of entries, as a typing
abbrev pub listed : {S : Type 0} → List (Option S) → Typing S
listed entries i = slice_index_or entries i None

-- whether a table and marks of these lengths have a place for each of so many instructions
abbrev pub roomy : ℕ → ℕ → ℕ → Bool
roomy count table marks = nat_le count table && nat_le count marks

-- what a check answers: tables that are too short are refused first
abbrev pub outcome : {S : Type 0} → Parts → Meaning S → ℕ → ℕ → List ℕ → Result (Unit {0}) CheckError
outcome p m table marks bs = cond (roomy (length p.code) table marks) (verdict p m bs) (Err Sizes)

-- what a check leaves: tables that are too short are as they were
abbrev pub cleared : {A : Type 0} → ℕ → ℕ → ℕ → A → List A → List A
cleared count table marks x xs = cond (roomy count table marks) (filled count x xs) xs
