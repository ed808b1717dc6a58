-- A stack of at most sixteen kinds in sixteen cells.
use Rattle.std.specs.Prelude.{◌≡◌, ◌-◌, ◌≤◌, List, ◌++◌, length, take, drop, replicate, reverse}
use Rattle.std.proofs.Common.{sym, ap, ◌∙◌, arith, length-append, take-append-drop}
use Rattle.std.proofs.lemmas.List.{reverse-reverse, length-reverse, length-take-le, length-replicate, take_at, drop_at}
use Rattle.kinds.specs.declared.kind.Kind.{Kind}
use Rattle.kinds.specs.declared.kind.Kind.TheVariants.{Int}
use Rattle.types.specs.declared.operands.Operands.TheInside.{Inside}

-- the kinds in the cells below the depth, the top one first
abbrev pub stack_in : Inside → List Kind
stack_in s = reverse (take s.depth s.kinds)

-- the cells from the depth on are int, so that equal stacks lie in equal cells
pub record Cells (s : Inside) : Type 0 where
  pub sixteen : length s.kinds ≡ 16
  pub few : s.depth ≤ 16
  pub clear : drop s.depth s.kinds ≡ replicate (16 - s.depth) Int

-- the cells that a stack lies in
abbrev pub cells_of : List Kind → Inside
cells_of ks = record { kinds = reverse ks ++ replicate (16 - length ks) Int; depth = length ks }

pub stack_length : (s : Inside) → Cells s → length (stack_in s) ≡ s.depth
stack_length s c =
    let few = c.few in
    let sixteen = c.sixteen in
    length-reverse (take s.depth s.kinds) ∙ length-take-le s.depth s.kinds (omega arith)

-- the cells of a stack in cells are those cells
pub cells_back : (s : Inside) → Cells s → cells_of (stack_in s) ≡ s
cells_back s c =
    let depth = stack_length s c in
    let kinds : reverse (stack_in s) ++ replicate (16 - length (stack_in s)) Int ≡ s.kinds =
    ap (λ xs. xs ++ replicate (16 - length (stack_in s)) Int) (reverse-reverse (take s.depth s.kinds))
    ∙ ap (λ n. take s.depth s.kinds ++ replicate (16 - n) Int) depth
    ∙ ap (λ xs. take s.depth s.kinds ++ xs) (sym c.clear)
    ∙ take-append-drop s.depth s.kinds in
    λ i. record { kinds = kinds i; depth = depth i }

-- the stack in the cells of a stack is that stack
pub stack_back : (ks : List Kind) → stack_in (cells_of ks) ≡ ks
stack_back ks =
    ap reverse (take_at (reverse ks) (replicate (16 - length ks) Int) (length ks) (length-reverse ks)) ∙ reverse-reverse ks

-- a stack that fits lies in cells as they have to be
pub stack_cells : (ks : List Kind) → length ks ≤ 16 → Cells (cells_of ks)
stack_cells ks l =
    record {
      sixteen =
          omega (arith, length-append (reverse ks) (replicate (16 - length ks) Int), length-reverse ks, length-replicate (16 - length ks) Int);
      few = l;
      clear = drop_at (reverse ks) (replicate (16 - length ks) Int) (length ks) (length-reverse ks);
    }

-- equal stacks lie in equal cells
pub same_stack : (s t : Inside) → Cells s → Cells t → stack_in s ≡ stack_in t → s ≡ t
same_stack s t c d e = sym (cells_back s c) ∙ ap cells_of e ∙ cells_back t d
