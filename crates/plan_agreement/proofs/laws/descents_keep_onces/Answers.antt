use Rattle.plan_agreement.proofs.Steadies.{onces_stay}
use Rattle.plan_agreement.proofs.laws.descents_keep_onces.Goals as goal

pub returns : goal.returns
returns c = onces_stay
