use Rattle.plan_tree.proofs.Plain.{plain_begin}
use Rattle.plan_tree.proofs.laws.plain_trees_begin.Goals as goal

pub returns : goal.returns
returns c = plain_begin
