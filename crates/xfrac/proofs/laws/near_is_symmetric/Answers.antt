use Rattle.xfrac.proofs.LawProofs.{near_symmetric}
use Rattle.xfrac.proofs.laws.near_is_symmetric.Goals as goal

pub returns : goal.returns
returns c = near_symmetric
