use Rattle.op_gather.proofs.AsSets.{sets_stay}
use Rattle.op_gather.proofs.laws.sets_stay.Goals as goal

pub returns : goal.returns
returns c = sets_stay
