use Rattle.plan_work.proofs.InnerTimes.{inner_listed}
use Rattle.plan_work.proofs.laws.inner_times_are_listed.Goals as goal

pub returns : goal.returns
returns c = inner_listed c.multiples_are_all.ensures c.walk_moments_are_moments.ensures
