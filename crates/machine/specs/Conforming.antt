-- Which values conform to which kinds, as a test that computes.
use Rattle.std.specs.Prelude.{ℕ, zero, suc, Bool, true, false, List, [], slice_index_or}
use Rattle.kinds.specs.declared.kind.Kind.{Kind}
use Rattle.kinds.specs.declared.kind.Kind.TheVariants.{Int, Null, Unusable, Class}
use Rattle.format.specs.Parts.{Parts}
use Rattle.lattice.specs.Computing.{is_a}
use Rattle.machine.specs.Values.{Value, int, ref, Object}

-- the class of an object, by its number from 1
abbrev pub class_of_object : List Object → ℕ → ℕ
class_of_object os i = (slice_index_or os i (record { class = 0; cells = [] })).class

-- an int conforms to int, null to null and every class, an object to each class that its own lies below, and every value to
-- unusable
abbrev pub conforms : Parts → List Object → Value → Kind → Bool
conforms p os (int z) Int = true
conforms p os (int z) Null = false
conforms p os (int z) Unusable = true
conforms p os (int z) (Class d) = false
conforms p os (ref zero) Int = false
conforms p os (ref zero) Null = true
conforms p os (ref zero) Unusable = true
conforms p os (ref zero) (Class d) = true
conforms p os (ref (suc i)) Int = false
conforms p os (ref (suc i)) Null = false
conforms p os (ref (suc i)) Unusable = true
conforms p os (ref (suc i)) (Class d) = is_a p (class_of_object os i) d

-- whether a value is a reference at all
abbrev pub is_ref : Value → Bool
is_ref (int z) = false
is_ref (ref r) = true
