-- Two-byte numbers and the codes of kinds survive writing and reading.
use Rattle.std.proofs.Common.{◌≡◌, ℕ, ◌+◌, ◌*◌, ◌/◌, ◌%◌, ◌<◌, ◌≤◌, Bool, true, false, cond, eqb, List, [], ◌∷◌, sym, refl, ◌∙◌, arith}
use Rattle.std.proofs.lemmas.Bool.{cond-false, ne_eqb, eqb-true}
use Rattle.kinds.specs.declared.kind.Kind.{Kind}
use Rattle.kinds.specs.declared.kind.Kind.TheVariants.{Int, Null, Unusable, Class}
use Rattle.kinds.specs.Codes.{kind_of, kind_code}
use Rattle.format.specs.Bytes.{byte_at, word_at, word, slice}
use Rattle.format.specs.Rules.{Storable}
use Rattle.format.proofs.Slices.{byte_said, first_said}

pub word_of : (a b : ℕ) → b < 256 → word (a * 256 + b) ≡ a ∷ b ∷ []
word_of a b h =
    let q : (a * 256 + b) / 256 ≡ a = omega arith in
    let r : (a * 256 + b) % 256 ≡ b = omega arith in
    rw (q, r)

pub number_of : (n : ℕ) → n / 256 * 256 + n % 256 ≡ n
number_of n = omega arith

-- bytes that are a number's two say that number
pub word_said : (bs : List ℕ) (at n : ℕ) → slice bs at 2 ≡ word n → word_at bs at ≡ n
word_said bs at n h =
    let a : byte_at bs at ≡ n / 256 = first_said bs (word n) at 2 (omega arith) h in
    let b : byte_at bs (at + 1) ≡ n % 256 = byte_said bs (word n) at 2 1 (omega arith) h in
    omega (arith, number_of n)

pub word_below : (bs : List ℕ) (at : ℕ) → byte_at bs at < 256 → byte_at bs (at + 1) < 256 → word_at bs at < 65536
word_below bs at h k = omega arith

-- a code below 65,536 stands for one kind, whose code it is
pub code_of_kind : (n : ℕ) → kind_code (kind_of n) ≡ n
code_of_kind n = step (eqb n 65535) (eqb n 65534) (eqb n 65533) refl refl refl
  where
    step : (a b c : Bool) → eqb n 65535 ≡ a → eqb n 65534 ≡ b → eqb n 65533 ≡ c → kind_code (cond a Int (cond b Null (cond c Unusable (Class n)))) ≡ n
    step true b c e f g = sym (eqb-true n 65535 e)
    step false true c e f g = sym (eqb-true n 65534 f)
    step false false true e f g = sym (eqb-true n 65533 g)
    step false false false e f g = refl

-- what a slot or a field may hold survives
pub kind_of_code : (m : ℕ) (k : Kind) → m ≤ 256 → Storable m k → kind_of (kind_code k) ≡ k
kind_of_code m Int h s = refl
kind_of_code m Null h s = absurd s
kind_of_code m Unusable h s = absurd s
kind_of_code m (Class c) h s =
    cond-false (eqb c 65535) _ _ (ne_eqb c 65535 (λ e. omega arith))
    ∙ cond-false (eqb c 65534) _ _ (ne_eqb c 65534 (λ e. omega arith))
    ∙ cond-false (eqb c 65533) _ _ (ne_eqb c 65533 (λ e. omega arith))
