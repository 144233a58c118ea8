use Rattle.plan_agreement.proofs.Types.{types_stay}
use Rattle.plan_agreement.proofs.laws.descents_keep_types.Goals as goal

pub returns : goal.returns
returns c = types_stay
