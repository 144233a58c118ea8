use Rattle.plan_tree.proofs.Runs.{done_none, gone_then}
use Rattle.plan_tree.proofs.laws.turns_follow.Goals as goal

pub returns-clause-none : goal.returns-clause-none
returns-clause-none c = λ es. (done_none es).gone

pub returns-clause-follow : goal.returns-clause-follow
returns-clause-follow c = gone_then tt
