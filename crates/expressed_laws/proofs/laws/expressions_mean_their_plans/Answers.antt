use Rattle.expressed_laws.proofs.Unrefused.{expressions_mean}
use Rattle.expressed_laws.proofs.laws.expressions_mean_their_plans.Goals as goal

pub returns : goal.returns
returns c = expressions_mean c.plans_mean_their_trees.ensures
