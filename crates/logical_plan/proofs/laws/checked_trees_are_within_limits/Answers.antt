use Rattle.logical_plan.proofs.Crowding.{checked_within}
use Rattle.logical_plan.proofs.laws.checked_trees_are_within_limits.Goals as goal

pub returns : goal.returns
returns c = checked_within
