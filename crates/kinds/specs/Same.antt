-- Whether two kinds are the same.
use Rattle.std.specs.Prelude.{Bool, true, false, ◌==◌}
use Rattle.kinds.specs.declared.kind.Kind.{Kind}
use Rattle.kinds.specs.declared.kind.Kind.TheVariants.{Int, Null, Unusable, Class}

abbrev pub alike : Kind → Kind → Bool
alike Int Int = true
alike Int Null = false
alike Int Unusable = false
alike Int (Class d) = false
alike Null Int = false
alike Null Null = true
alike Null Unusable = false
alike Null (Class d) = false
alike Unusable Int = false
alike Unusable Null = false
alike Unusable Unusable = true
alike Unusable (Class d) = false
alike (Class c) Int = false
alike (Class c) Null = false
alike (Class c) Unusable = false
alike (Class c) (Class d) = c == d
