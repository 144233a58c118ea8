use Rattle.xfrac.specs.Gcds.{gcd_found}
use Rattle.xfrac.proofs.divisors.gcd.Goals as goal

pub returns-clause-positive : goal.returns-clause-positive
returns-clause-positive c = (gcd_found _ _ _ c.requires c.common_divisor.ensures).1

pub returns-clause-value : goal.returns-clause-value
returns-clause-value c = (gcd_found _ _ _ c.requires c.common_divisor.ensures).0
