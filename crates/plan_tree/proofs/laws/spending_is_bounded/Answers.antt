use Rattle.plan_tree.proofs.Bounds.{spending_bounded}
use Rattle.plan_tree.proofs.laws.spending_is_bounded.Goals as goal

pub returns : goal.returns
returns c = spending_bounded c.turns_are_the_walk.ensures
