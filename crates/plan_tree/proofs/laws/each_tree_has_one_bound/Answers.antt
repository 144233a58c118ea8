use Rattle.plan_tree.proofs.OneBound.{one_bound}
use Rattle.plan_tree.proofs.laws.each_tree_has_one_bound.Goals as goal

pub returns : goal.returns
returns c = one_bound c.walks_are_listed.ensures.one c.walks_are_listed.ensures.no_other
