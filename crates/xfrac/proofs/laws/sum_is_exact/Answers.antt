use Rattle.xfrac.proofs.Exact.{sum_exact}
use Rattle.xfrac.proofs.laws.sum_is_exact.Goals as goal

pub returns : goal.returns
returns c = λ a b v. sum_exact a b v
