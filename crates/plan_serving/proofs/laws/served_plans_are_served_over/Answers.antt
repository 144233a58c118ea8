use Rattle.plan_serving.proofs.Engines.{served_over}
use Rattle.plan_serving.proofs.laws.served_plans_are_served_over.Goals as goal

pub returns : goal.returns
returns c = served_over
