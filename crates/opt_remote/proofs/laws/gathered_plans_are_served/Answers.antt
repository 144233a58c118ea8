use Rattle.opt_remote.proofs.Served.{all_rise, gathered_served}
use Rattle.opt_remote.proofs.laws.gathered_plans_are_served.Goals as goal

pub returns : goal.returns
returns c = record { served = gathered_served; rising = all_rise }
