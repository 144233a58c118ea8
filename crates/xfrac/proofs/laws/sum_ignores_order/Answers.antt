use Rattle.xfrac.proofs.LawProofs.{sum_permutation}
use Rattle.xfrac.proofs.laws.sum_ignores_order.Goals as goal

pub returns : goal.returns
returns c = sum_permutation
