-- The order of kinds and the least kind above two, as functions that compute.
use Rattle.std.specs.Prelude.{ℕ, zero, suc, ◌+◌, Bool, true, false, cond, ◌&&◌, ◌||◌, length, ◌==◌, nat_lt}
use Rattle.kinds.specs.declared.kind.Kind.{Kind}
use Rattle.kinds.specs.declared.kind.Kind.TheVariants.{Int, Null, Unusable, Class}
use Rattle.format.specs.Parts.{Parts, parent_of}

-- whether class d is c or an ancestor of it, by climbing at most so many times
abbrev pub climbs : Parts → ℕ → ℕ → ℕ → Bool
climbs p zero c d = c == d
climbs p (suc n) c d = c == d || (nat_lt 0 c && (nat_lt c (length p.classes) && climbs p n (parent_of p c) d))

-- whether class d is c or an ancestor of it; parents have lower numbers, so c climbs suffice
abbrev pub is_a : Parts → ℕ → ℕ → Bool
is_a p c d = climbs p c c d

-- whether one kind lies below another
abbrev pub lies : Parts → Kind → Kind → Bool
lies p Int Int = true
lies p Int Null = false
lies p Int Unusable = true
lies p Int (Class d) = false
lies p Null Int = false
lies p Null Null = true
lies p Null Unusable = true
lies p Null (Class d) = true
lies p Unusable Int = false
lies p Unusable Null = false
lies p Unusable Unusable = true
lies p Unusable (Class d) = false
lies p (Class c) Int = false
lies p (Class c) Null = false
lies p (Class c) Unusable = true
lies p (Class c) (Class d) = is_a p c d

-- the least kind above two classes: climb from the larger number until the two meet, at most so many times; a class that
-- the unit has not has no parent to climb to
abbrev pub meet : Parts → ℕ → ℕ → ℕ → Kind
meet p zero c d = Unusable
meet p (suc n) c d =
    cond (c == d) (Class c)
    (cond (nat_lt d c)
    (cond (nat_lt c (length p.classes)) (meet p n (parent_of p c) d) Unusable)
    (cond (nat_lt d (length p.classes)) (meet p n c (parent_of p d)) Unusable))

-- the least kind above two kinds
abbrev pub least_of : Parts → Kind → Kind → Kind
least_of p Int Int = Int
least_of p Int Null = Unusable
least_of p Int Unusable = Unusable
least_of p Int (Class d) = Unusable
least_of p Null Int = Unusable
least_of p Null Null = Null
least_of p Null Unusable = Unusable
least_of p Null (Class d) = Class d
least_of p Unusable b = Unusable
least_of p (Class c) Int = Unusable
least_of p (Class c) Null = Class c
least_of p (Class c) Unusable = Unusable
least_of p (Class c) (Class d) = meet p (suc (c + d)) c d
