use Rattle.std.proofs.Common.{subst, sym, inl, inr}
use Rattle.std.specs.Int.{IsGcd}
use Rattle.std.proofs.lemmas.Nat.Gcd.{IsGcd-swap}
use Rattle.xfrac.specs.Reduced.{IsGcd-one}
use Rattle.xfrac.proofs.divisors.shared_divisor.Goals as goal

pub returns-then-b-eq1-clause-value : goal.returns-then-b-eq1-clause-value
returns-then-b-eq1-clause-value c =
    elim c.if-b-eq1.either [
      | inl one ↦ subst (λ z. IsGcd z c.args.b 1) (sym one) (IsGcd-swap c.args.b 1 1 (IsGcd-one c.args.b))
      | inr other ↦ subst (λ z. IsGcd c.args.a z 1) (sym other.1) (IsGcd-one c.args.a)
    ]
