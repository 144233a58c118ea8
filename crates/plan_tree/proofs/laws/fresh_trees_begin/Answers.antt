use Rattle.plan_tree.proofs.Bounds.{fresh_begin}
use Rattle.plan_tree.proofs.laws.fresh_trees_begin.Goals as goal

pub returns : goal.returns
returns c = fresh_begin
