use Rattle.std.proofs.lemmas.Nat.Gcd.{IsGcd-from_mod, IsGcd-from_zero}
use Rattle.xfrac.proofs.divisors.divided_common_divisor.Goals as goal

pub returns-then-rest-eq0 : goal.returns-then-rest-eq0
returns-then-rest-eq0 c = IsGcd-from_mod _ _ _ (IsGcd-from_zero c.args.b _ c.if-rest-eq0.true)

pub returns-then-next-eq0 : goal.returns-then-next-eq0
returns-then-next-eq0 c = IsGcd-from_mod _ _ _ (IsGcd-from_mod _ _ _ (IsGcd-from_zero _ _ c.if-next-eq0.true))

pub returns : goal.returns
returns c = IsGcd-from_mod _ _ _ (IsGcd-from_mod _ _ _ c.small_common_divisor.ensures)
