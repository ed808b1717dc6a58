-- How far a kind is from unusable: a number that falls from a kind to any other above it.
use Rattle.std.specs.Prelude.{ℕ, zero, suc, ◌+◌, max, cond, ◌&&◌, length, nat_lt}
use Rattle.kinds.specs.declared.kind.Kind.{Kind}
use Rattle.kinds.specs.declared.kind.Kind.TheVariants.{Int, Null, Unusable, Class}
use Rattle.format.specs.Parts.{Parts, parent_of}

-- the number of ancestors of class c, by climbing at most so many times
abbrev pub count_from : Parts → ℕ → ℕ → ℕ
count_from p zero c = 0
count_from p (suc n) c = cond (nat_lt 0 c && nat_lt c (length p.classes)) (suc (count_from p n (parent_of p c))) 0

-- the number of ancestors of a class; parents have lower numbers, so c climbs suffice
abbrev pub ancestors : Parts → ℕ → ℕ
ancestors p c = count_from p c c

-- the largest number of ancestors that any of the first n classes has
abbrev pub most : Parts → ℕ → ℕ
most p zero = 0
most p (suc n) = max (ancestors p n) (most p n)

-- the largest number of ancestors that any class has
abbrev pub deepest : Parts → ℕ
deepest p = most p (length p.classes)

abbrev pub kind_height : Parts → Kind → ℕ
kind_height p Int = 1
kind_height p Null = 2 + deepest p
kind_height p Unusable = 0
kind_height p (Class c) = 1 + ancestors p c
