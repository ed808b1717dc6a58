-- A step in outline: where it goes on, what it does to the slots and to the row, and which faults tell what. Of the operands
-- and the objects it says nothing.
use Rattle.std.proofs.Common.{◌≡◌, ℕ, zero, suc, ◌+◌, ◌%◌, ◌<◌, Bool, true, false, cond, eqb, leb, List, [], ◌∷◌, ◌++◌, length, get_or, set, ℤ, pos, ◌+ℤ◌, Some, None, Option, sym, refl, subst, arith, w16, w32, to_z, lt-ltb}
use lib.Signed.{lt_z}
use Rattle.std.specs.Int.{int_wrap}
use Rattle.opcodes.specs.declared.opcode.Opcode.{Opcode}
use Rattle.opcodes.specs.declared.opcode.Opcode.TheVariants.{Push, Nil, Load, Store, Drop, Add, Less, Jump, Branch, Brnull, New, Get, Put, Post, Return}
use Rattle.opcodes.specs.Numbers.{opcode_number}
use Rattle.opcodes.specs.Table.{line_of}
use Rattle.opcodes.specs.TableRule.{jumps}
use Rattle.format.specs.Parts.{Parts, instruction_of}
use Rattle.machine.specs.Values.{Value, int, ref, Object}
use Rattle.machine.specs.Configuration.{Configuration, stopped, fault}
use Rattle.machine.specs.Step.{Found, few, wrong, took, finds, does, acts, step, next, allowed, goes_at, loads, posts, ends, gets, puts, top, second, reference, number, is_zero, with_slot, with_objects, with_row, fresh, object_at}
use Rattle.machine.specs.Ways.{Leads, passes, Expects}
use Rattle.machine.proofs.Expected.{either_expected, allowed_expected, next_expected, weaker_expected}

-- at the next instruction, where the instruction passes, or at its number, where it jumps
pub data Along (o : Opcode) (n i : ℕ) : ℕ → Type 0 where
  onward : passes (line_of o).ways ≡ true → Along o n i (i + 1)
  away : jumps (line_of o).ways ≡ true → Along o n i n

-- store sets its slot, and all else leaves the slots as they were
pub data SlotsBy (n : ℕ) (xs : List (Option Value)) : Opcode → List (Option Value) → Type 0 where
  stored : (v : Value) → SlotsBy n xs Store (set xs n (Some v))
  kept : {o : Opcode} → (o ≡ Store → ⊥) → SlotsBy n xs o xs

-- post makes a row, and all else leaves the row as it was
pub data RowBy (r : Option ℤ) : Opcode → Option ℤ → Type 0 where
  posted : (z : ℤ) → RowBy r Post (Some z)
  kept : {o : Opcode} → (o ≡ Post → ⊥) → RowBy r o r

pub record Went (c : Configuration) (o : Opcode) (n : ℕ) (d : Configuration) : Type 0 where
  pub along : Along o n c.at d.at
  pub slots : SlotsBy n c.slots o d.slots
  pub row : RowBy c.row o d.row

-- what a fault tells of the configuration in which it was met
pub record Blames (c : Configuration) (o : Opcode) (n : ℕ) (f : ℕ) : Type 0 where
  pub inside : f ≡ 7 → ⊥
  pub unset : f ≡ 4 → (o ≡ Load) × (get_or c.slots n None ≡ None)
  pub held : f ≡ 5 → (o ≡ Post) × ((b : ℤ) × (c.row ≡ Some b))
  pub missing : f ≡ 6 → (o ≡ Return) × (c.row ≡ None)

-- a fault of the operands tells nothing
idle : (c : Configuration) (o : Opcode) (n f : ℕ) → f < 4 → Blames c o n f
idle c o n f l =
    record { inside = λ e. omega arith; unset = λ e. absurd (omega arith); held = λ e. absurd (omega arith); missing = λ e. absurd (omega arith) }

two_idle : (c : Configuration) (o : Opcode) (n : ℕ) → Blames c o n 2
two_idle c o n = idle c o n 2 (omega arith)

-- opcodes are told apart by their numbers in the table
no_store : (o : Opcode) → eqb (opcode_number o) 3 ≡ false → o ≡ Store → ⊥
no_store o e q = grind arith

no_post : (o : Opcode) → eqb (opcode_number o) 13 ≡ false → o ≡ Post → ⊥
no_post o e q = grind arith

module _ (p : Parts) (c : Configuration) (n : ℕ) where
  on_objects : (o : Opcode) (os : List Object) (vs : List Value) → eqb (opcode_number o) 3 ≡ false → eqb (opcode_number o) 13 ≡ false → passes (line_of o).ways ≡ true → Expects (Went c o n) (Blames c o n) (next p (with_objects c os) vs)
  on_objects o os vs s t w =
      next_expected (Went c o n) (Blames c o n) p (with_objects c os) vs
      (record { along = onward w; slots = kept (no_store o s); row = kept (no_post o t) }) (two_idle c o n)

  on : (o : Opcode) (vs : List Value) → eqb (opcode_number o) 3 ≡ false → eqb (opcode_number o) 13 ≡ false → passes (line_of o).ways ≡ true → Expects (Went c o n) (Blames c o n) (next p c vs)
  on o vs s t w = on_objects o c.objects vs s t w

  off : (o : Opcode) (vs : List Value) → eqb (opcode_number o) 3 ≡ false → eqb (opcode_number o) 13 ≡ false → jumps (line_of o).ways ≡ true → Expects (Went c o n) (Blames c o n) (allowed p (goes_at c n vs))
  off o vs s t w =
      allowed_expected (Went c o n) (Blames c o n) p (goes_at c n vs)
      (record { along = away w; slots = kept (no_store o s); row = kept (no_post o t) }) (two_idle c o n)

  loads_outline : (vs : List Value) (v : Option Value) → get_or c.slots n None ≡ v → Expects (Went c Load n) (Blames c Load n) (loads p c vs v)
  loads_outline vs None e =
      record { inside = λ q. omega arith; unset = λ q. (refl, e); held = λ q. absurd (omega arith); missing = λ q. absurd (omega arith) }
  loads_outline vs (Some v) e = on Load (v ∷ vs) refl refl refl

  posts_outline : (vs : List Value) (z : ℤ) (r : Option ℤ) → c.row ≡ r → Expects (Went c Post n) (Blames c Post n) (posts p c vs z r)
  posts_outline vs z None e =
      next_expected (Went c Post n) (Blames c Post n) p (with_row c z) vs
      (record { along = onward refl; slots = kept (no_store Post refl); row = posted z }) (two_idle c Post n)
  posts_outline vs z (Some b) e =
      record { inside = λ q. omega arith; unset = λ q. absurd (omega arith); held = λ q. (refl, (b, e)); missing = λ q. absurd (omega arith) }

  ends_outline : (r : Option ℤ) → c.row ≡ r → Expects (Went c Return n) (Blames c Return n) (ends r)
  ends_outline None e =
      record { inside = λ q. omega arith; unset = λ q. absurd (omega arith); held = λ q. absurd (omega arith); missing = λ q. (refl, e) }
  ends_outline (Some b) e = tt

  gets_outline : (vs : List Value) (r : ℕ) → Expects (Went c Get n) (Blames c Get n) (gets p c n vs r)
  gets_outline vs zero = tt
  gets_outline vs (suc i) = on Get (get_or (object_at c.objects i).cells (n % 8) (int (pos 0)) ∷ vs) refl refl refl

  puts_outline : (vs : List Value) (v : Value) (r : ℕ) → Expects (Went c Put n) (Blames c Put n) (puts p c n vs v r)
  puts_outline vs v zero = tt
  puts_outline vs v (suc i) =
      on_objects Put
      (set c.objects i (record { class = (object_at c.objects i).class; cells = set (object_at c.objects i).cells (n % 8) v }))
      vs refl refl refl

  acts_outline : (o : Opcode) (ts vs : List Value) → Expects (Went c o n) (Blames c o n) (acts p c o n ts vs)
  acts_outline Push ts vs = on Push (int (to_z w16 n) ∷ vs) refl refl refl
  acts_outline Nil ts vs = on Nil (ref 0 ∷ vs) refl refl refl
  acts_outline Load ts vs = loads_outline vs (get_or c.slots n None) refl
  acts_outline Store ts vs =
      next_expected (Went c Store n) (Blames c Store n) p (with_slot c n (top ts)) vs
      (record { along = onward refl; slots = stored (top ts); row = kept (no_post Store refl) }) (two_idle c Store n)
  acts_outline Drop ts vs = on Drop vs refl refl refl
  acts_outline Add ts vs = on Add (int (int_wrap w32 (number (second ts) +ℤ number (top ts))) ∷ vs) refl refl refl
  acts_outline Less ts vs = on Less (int (cond (lt_z (number (second ts)) (number (top ts))) (pos 1) (pos 0)) ∷ vs) refl refl refl
  acts_outline Jump ts vs = off Jump vs refl refl refl
  acts_outline Branch ts vs =
      either_expected (Went c Branch n) (Blames c Branch n) (is_zero (number (top ts))) (next p c vs) (allowed p (goes_at c n vs))
      (on Branch vs refl refl refl) (off Branch vs refl refl refl)
  acts_outline Brnull ts vs =
      either_expected (Went c Brnull n) (Blames c Brnull n) (eqb (reference (top ts)) 0) (allowed p (goes_at c n vs)) (next p c vs)
      (off Brnull vs refl refl refl) (on Brnull vs refl refl refl)
  acts_outline New ts vs =
      either_expected (Went c New n) (Blames c New n) (leb 32 (length c.objects)) (stopped 2)
      (next p (with_objects c (c.objects ++ (fresh p n ∷ []))) (ref (length c.objects + 1) ∷ vs)) tt
      (on_objects New (c.objects ++ (fresh p n ∷ [])) (ref (length c.objects + 1) ∷ vs) refl refl refl)
  acts_outline Get ts vs = gets_outline vs (reference (top ts))
  acts_outline Put ts vs = puts_outline vs (top ts) (reference (second ts))
  acts_outline Post ts vs = posts_outline vs (number (top ts)) c.row refl
  acts_outline Return ts vs = ends_outline c.row refl

  does_outline : (o : Opcode) (f : Found) → Expects (Went c o n) (Blames c o n) (does p c o n f)
  does_outline o few = idle c o n 1 (omega arith)
  does_outline o (wrong d) = idle c o n 3 (omega arith)
  does_outline o (took ts vs) = acts_outline o ts vs

-- inside the code, a step is as the outline says
pub step_outline : (p : Parts) (c : Configuration) → c.at < length p.code → Expects (Went c (instruction_of p c.at).opcode (instruction_of p c.at).operand) (Blames c (instruction_of p c.at).opcode (instruction_of p c.at).operand) (step p c)
step_outline p c l =
    let o = (instruction_of p c.at).opcode in
    let n = (instruction_of p c.at).operand in
    let f = finds p c.objects n (line_of o).takes c.operands in
    subst (λ (b : Bool). Expects (Went c o n) (Blames c o n) (cond b (does p c o n f) (fault 7)))
    (sym (lt-ltb c.at (length p.code) l)) (does_outline p c n o f)

leads : (p : Parts) (i j : ℕ) → Along (instruction_of p i).opcode (instruction_of p i).operand i j → Leads p i j
leads p i j (onward h) = Leads.next h
leads p i j (away h) = Leads.jump h

-- inside the code, a run that goes on goes along a way of its instruction, and no step is fault 7
pub step_along : (p : Parts) (c : Configuration) → c.at < length p.code → Expects (λ d. Leads p c.at d.at) (λ f. f ≡ 7 → ⊥) (step p c)
step_along p c l =
    let o = (instruction_of p c.at).opcode in
    let n = (instruction_of p c.at).operand in
    weaker_expected (Went c o n) (λ d. Leads p c.at d.at) (Blames c o n) (λ f. f ≡ 7 → ⊥) (step p c)
    (λ d w. leads p c.at d.at w.along) (λ f b. b.inside) (step_outline p c l)
