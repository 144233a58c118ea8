use Rattle.plan_tree.proofs.Counted.{fresh_counts}
use Rattle.plan_tree.proofs.laws.fresh_trees_have_fetched_nothing.Goals as goal

pub returns : goal.returns
returns c = fresh_counts
