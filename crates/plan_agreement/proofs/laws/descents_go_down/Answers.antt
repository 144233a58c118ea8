use Rattle.plan_agreement.proofs.Descends.{descended_by_node, nothing_replaced}
use Rattle.plan_agreement.proofs.laws.descents_go_down.Goals as goal

pub returns-clause-node : goal.returns-clause-node
returns-clause-node c = descended_by_node

pub returns-clause-nothing : goal.returns-clause-nothing
returns-clause-nothing c = λ f p none. nothing_replaced f none p
