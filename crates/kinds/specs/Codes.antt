-- The two-byte codes of kinds: FFFF int, FFFE null, FFFD unusable, and every other number the class of that number.
use Rattle.std.specs.Prelude.{ℕ, cond, ◌==◌}
use Rattle.kinds.specs.declared.kind.Kind.{Kind}
use Rattle.kinds.specs.declared.kind.Kind.TheVariants.{Int, Null, Unusable, Class}

abbrev pub kind_code : Kind → ℕ
kind_code Int = 65535
kind_code Null = 65534
kind_code Unusable = 65533
kind_code (Class c) = c

abbrev pub kind_of : ℕ → Kind
kind_of n = cond (n == 65535) Int (cond (n == 65534) Null (cond (n == 65533) Unusable (Class n)))
