use Rattle.std.proofs.Common.{ap, ◌∙◌}
use Rattle.xfrac.specs.Sums.{totals}
use Rattle.xfrac.proofs.sums.SumAcc.count.Goals as goal

pub returns-clause-length : goal.returns-clause-length
unfolding totals
returns-clause-length c = λ xs e. ap (λ t. t.count) (c.self.view_is ∙ e)
