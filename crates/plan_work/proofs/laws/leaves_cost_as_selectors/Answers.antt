use Rattle.plan_work.proofs.Leaves.{leaves_cost}
use Rattle.plan_work.proofs.laws.leaves_cost_as_selectors.Goals as goal

pub returns : goal.returns
returns c = leaves_cost c.walk_moments_are_moments.ensures
