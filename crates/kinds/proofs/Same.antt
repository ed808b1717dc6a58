-- The test that tells whether two kinds are the same decides it.
use Rattle.std.proofs.Common.{rules, ◌≡◌, Decides, refl, ap, eq-eqb}
use Rattle.std.proofs.lemmas.Bool.{eqb-true}
use Rattle.kinds.specs.declared.kind.Kind.{Kind}
use Rattle.kinds.specs.declared.kind.Kind.TheVariants.{Int, Null, Unusable, Class}
use Rattle.kinds.specs.Same.{alike}
use Rattle.kinds.specs.contracts.kind.KindPartialEq.TheImpl.{eq-value}

pub alike_decides : (a b : Kind) → Decides (alike a b) (a ≡ b)
alike_decides (Class c) (Class d) = (λ e. ap Class (eqb-true c d e), λ e. eq-eqb c d (cc e))
alike_decides Int Int = (λ e. refl, λ e. refl)
alike_decides Null Null = (λ e. refl, λ e. refl)
alike_decides Unusable Unusable = (λ e. refl, λ e. refl)
alike_decides a b = (λ e. absurd (cc), λ e. absurd (cc))

-- and so does the derived equality
pub equal_decides : (a b : Kind) → Decides (eq-value.it a b) (a ≡ b)
equal_decides a b = search rules
