-- Each claim as a test that computes.
use Rattle.std.specs.Prelude.{ℕ, zero, suc, ◌+◌, ◌-◌, Bool, true, false, cond, ◌&&◌, ◌||◌, List, [], ◌∷◌, length, ℤ, pos, negsuc, is_ok, Some, None, Ok, Err, Option, Result, ◌==◌, nat_lt}
use Rattle.kinds.specs.declared.kind.Kind.{Kind}
use Rattle.kinds.specs.declared.kind.Kind.TheVariants.{Int, Null, Unusable, Class}
use Rattle.format.specs.declared.layout.Layout.{Layout}
use Rattle.format.specs.declared.refusal.ReadError.{ReadError}
use Rattle.format.specs.declared.refusal.Refusal.{Refusal}
use Rattle.format.specs.Bytes.{up_to}
use Rattle.format.specs.Parts.{Parts, parent_of}
use Rattle.format.specs.Encoding.{encode}
use Rattle.format.specs.Reading.{reading}
use Rattle.format.specs.Refusals.{read_refusal}
use Rattle.machine.specs.Configuration.{Outcome, goes, returned, stopped, fault}
use Rattle.machine.specs.Runs.{start, steps}
use Rattle.cases.specs.Claims.{Claim, reads, refuses, least, runs}

-- the least kind above two classes: climb from the larger number, so many times at most
abbrev pub climb : Parts → ℕ → ℕ → ℕ → Option Kind
climb p zero c d = None
climb p (suc n) c d =
    cond (c == d) (Some (Class c))
    (cond (nat_lt d c)
    (cond (nat_lt c (length p.classes)) (climb p n (parent_of p c) d) (Some Unusable))
    (cond (nat_lt d (length p.classes)) (climb p n c (parent_of p d)) (Some Unusable)))

abbrev pub least_of : Parts → Kind → Kind → Option Kind
least_of p Int Int = Some Int
least_of p Int Null = Some Unusable
least_of p Int Unusable = Some Unusable
least_of p Int (Class d) = Some Unusable
least_of p Null Int = Some Unusable
least_of p Null Null = Some Null
least_of p Null Unusable = Some Unusable
least_of p Null (Class d) = Some (Class d)
least_of p Unusable b = Some Unusable
least_of p (Class c) Int = Some Unusable
least_of p (Class c) Null = Some (Class c)
least_of p (Class c) Unusable = Some Unusable
least_of p (Class c) (Class d) = climb p (suc (c + d)) c d

abbrev pub same_kind : Kind → Kind → Bool
same_kind Int Int = true
same_kind Int Null = false
same_kind Int Unusable = false
same_kind Int (Class d) = false
same_kind Null Int = false
same_kind Null Null = true
same_kind Null Unusable = false
same_kind Null (Class d) = false
same_kind Unusable Int = false
same_kind Unusable Null = false
same_kind Unusable Unusable = true
same_kind Unusable (Class d) = false
same_kind (Class c) Int = false
same_kind (Class c) Null = false
same_kind (Class c) Unusable = false
same_kind (Class c) (Class d) = c == d

abbrev pub is_kind : Option Kind → Kind → Bool
is_kind None k = false
is_kind (Some j) k = same_kind j k

-- every class but the root has a parent of lower number
abbrev pub tree_test : Parts → Bool
tree_test p = up_to (length p.classes) (λ c. (c == 0) || nat_lt (parent_of p c) c)

abbrev pub same_refusal : Refusal → Refusal → Bool
same_refusal a b =
    (a.number == b.number)
    && (a.place == b.place && (a.layer == b.layer && (a.fault == b.fault && a.detail == b.detail)))

abbrev pub refused_with : Result Layout ReadError → Refusal → Bool
refused_with (Ok l) r = false
refused_with (Err e) r = same_refusal (read_refusal e) r

abbrev pub same_number : ℤ → ℤ → Bool
same_number (pos a) (pos b) = a == b
same_number (pos a) (negsuc b) = false
same_number (negsuc a) (pos b) = false
same_number (negsuc a) (negsuc b) = a == b

-- whether two runs ended alike
abbrev pub ends_alike : Outcome → Outcome → Bool
ends_alike (goes c) o = false
ends_alike (returned a) (goes d) = false
ends_alike (returned a) (returned b) = same_number a b
ends_alike (returned a) (stopped b) = false
ends_alike (returned a) (fault b) = false
ends_alike (stopped a) (goes d) = false
ends_alike (stopped a) (returned b) = false
ends_alike (stopped a) (stopped b) = a == b
ends_alike (stopped a) (fault b) = false
ends_alike (fault a) (goes d) = false
ends_alike (fault a) (returned b) = false
ends_alike (fault a) (stopped b) = false
ends_alike (fault a) (fault b) = a == b

abbrev pub goes_on : Outcome → Bool
goes_on (goes c) = true
goes_on (returned a) = false
goes_on (stopped a) = false
goes_on (fault a) = false

abbrev pub test : Claim → Bool
test (reads p n) = length (encode p) == n && is_ok (reading (encode p))
test (refuses bs r) = refused_with (reading bs) r
test (least p a b k) = tree_test p && is_kind (least_of p a b) k
test (runs p v n o) = goes_on (steps p (n - 1) (start p v)) && ends_alike (steps p n (start p v)) o
