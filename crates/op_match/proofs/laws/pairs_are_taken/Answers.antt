use Rattle.op_match.proofs.Clear.{pair_by_pair}
use Rattle.op_match.proofs.laws.pairs_are_taken.Goals as goal

pub returns : goal.returns
returns c = pair_by_pair c.steps_are_well_formed.ensures.settled
