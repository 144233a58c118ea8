use Rattle.plan_work.proofs.Stays.{spending_stays}
use Rattle.plan_work.proofs.laws.spending_stays_within.Goals as goal

pub returns : goal.returns
returns c = spending_stays
