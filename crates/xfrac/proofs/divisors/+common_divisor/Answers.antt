use Rattle.std.proofs.Common.{arith}
use Rattle.std.proofs.lemmas.Nat.Gcd.{IsGcd-from_mod, IsGcd-from_zero}
use Rattle.xfrac.proofs.divisors.+common_divisor.Goals as goal

pub returns-then-b-eq0 : goal.returns-then-b-eq0
returns-then-b-eq0 t c = IsGcd-from_zero _ _ (omega arith)

pub returns : goal.returns
returns t c = IsGcd-from_mod _ _ _ c.common_divisor.ensures
