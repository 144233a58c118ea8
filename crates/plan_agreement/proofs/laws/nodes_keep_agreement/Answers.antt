use Rattle.plan_agreement.proofs.Nodes.{nodes_agree}
use Rattle.plan_agreement.proofs.laws.nodes_keep_agreement.Goals as goal

pub returns : goal.returns
returns c = nodes_agree c.unions_are_sets.ensures.marks
