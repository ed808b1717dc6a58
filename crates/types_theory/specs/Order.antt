-- The order of stacks: of equal depth, kind by kind.
use Rattle.std.specs.Prelude.{ℕ, ◌+◌, Bool, true, false, ◌&&◌, List, [], ◌∷◌, length, Some, None, Option, nat_lt}
use Rattle.kinds.specs.declared.kind.Kind.{Kind}
use Rattle.kinds.specs.declared.kind.Kind.TheVariants.{Int, Null, Unusable, Class}
use Rattle.format.specs.Parts.{Parts}
use Rattle.lattice.specs.Computing.{lies, least_of}
use Rattle.lattice.specs.Height.{kind_height}

-- whether the unit has a kind: a class has to be one of its classes
abbrev pub known : Parts → Kind → Bool
known p Int = true
known p Null = true
known p Unusable = true
known p (Class c) = nat_lt c (length p.classes)

abbrev pub all_known : Parts → List Kind → Bool
all_known p [] = true
all_known p (k ∷ ks) = known p k && all_known p ks

abbrev pub all_below : Parts → List Kind → List Kind → Bool
all_below p [] [] = true
all_below p [] (j ∷ js) = false
all_below p (k ∷ ks) [] = false
all_below p (k ∷ ks) (j ∷ js) = lies p k j && all_below p ks js

abbrev pub on_top : Kind → Option (List Kind) → Option (List Kind)
on_top k (Some ks) = Some (k ∷ ks)
on_top k None = None

-- the least stack above two; stacks of different depth have none above both
abbrev pub joined_kinds : Parts → List Kind → List Kind → Option (List Kind)
joined_kinds p [] [] = Some []
joined_kinds p [] (j ∷ js) = None
joined_kinds p (k ∷ ks) [] = None
joined_kinds p (k ∷ ks) (j ∷ js) = on_top (least_of p k j) (joined_kinds p ks js)

-- the heights of the operands, added up
abbrev pub heights : Parts → List Kind → ℕ
heights p [] = 0
heights p (k ∷ ks) = kind_height p k + heights p ks
