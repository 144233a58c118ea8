use Rattle.logical_plan.proofs.Placing.{onces_are_steady, onces_keep}
use Rattle.logical_plan.proofs.laws.onces_keep_meanings.Goals as goal

pub returns : goal.returns
returns c = record { meanings = onces_keep; steady = onces_are_steady }
