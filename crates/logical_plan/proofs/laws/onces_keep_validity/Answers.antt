use Rattle.logical_plan.proofs.Valid.{validity_stays}
use Rattle.logical_plan.proofs.laws.onces_keep_validity.Goals as goal

pub returns : goal.returns
returns c = validity_stays
