use Rattle.logical_plan.proofs.Lowers.{lowered_means}
use Rattle.logical_plan.proofs.laws.plans_mean_their_trees.Goals as goal

pub returns : goal.returns
returns c asked placed e t patterns = lowered_means asked placed e patterns t
