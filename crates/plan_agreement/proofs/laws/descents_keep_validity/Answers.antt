use Rattle.plan_agreement.proofs.Measures.{validity_stays}
use Rattle.plan_agreement.proofs.laws.descents_keep_validity.Goals as goal

pub returns : goal.returns
returns c = validity_stays
