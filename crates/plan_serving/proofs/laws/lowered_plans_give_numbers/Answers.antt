use Rattle.plan_serving.proofs.Numbers.{lowered_numbers}
use Rattle.plan_serving.proofs.laws.lowered_plans_give_numbers.Goals as goal

pub returns : goal.returns
returns c = lowered_numbers
