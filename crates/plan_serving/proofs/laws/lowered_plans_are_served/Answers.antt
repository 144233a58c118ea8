use Rattle.plan_serving.proofs.Trees.{lowered_served}
use Rattle.plan_serving.proofs.laws.lowered_plans_are_served.Goals as goal

pub returns : goal.returns
returns c = lowered_served c.typed_trees_fit.ensures
