use Rattle.plan_tree.proofs.Walked.{turns_are_walked}
use Rattle.plan_tree.proofs.laws.turns_are_the_walk.Goals as goal

pub returns : goal.returns
returns c = turns_are_walked c.walks_are_listed.ensures.first c.walks_are_listed.ensures.next
