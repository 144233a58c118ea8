use Rattle.logical_plan.proofs.Steady.{steady_stays}
use Rattle.logical_plan.proofs.laws.steady_plans_stay.Goals as goal

pub returns : goal.returns
returns c = steady_stays
