use Rattle.std.proofs.Common.{refl}
use Rattle.xfrac.specs.Sums.{totals}
use Rattle.xfrac.proofs.sums.SumAcc.new.Goals as goal

pub returns-clause-value : goal.returns-clause-value
unfolding totals
returns-clause-value c = refl
