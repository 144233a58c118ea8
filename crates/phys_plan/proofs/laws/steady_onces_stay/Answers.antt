use Rattle.phys_plan.proofs.Onced.{onces_stay}
use Rattle.phys_plan.proofs.laws.steady_onces_stay.Goals as goal

pub returns : goal.returns
returns c = onces_stay c.steady_plans_stay.ensures
