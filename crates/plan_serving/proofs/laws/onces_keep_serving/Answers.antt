use Rattle.plan_serving.proofs.Placing.{onces_served}
use Rattle.plan_serving.proofs.laws.onces_keep_serving.Goals as goal

pub returns : goal.returns
returns c = onces_served
