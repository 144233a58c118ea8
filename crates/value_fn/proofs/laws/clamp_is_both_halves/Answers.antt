use Rattle.value_fn.proofs.Clamps.{clamp_halves}
use Rattle.value_fn.proofs.laws.clamp_is_both_halves.Goals as goal

pub returns : goal.returns
returns c = clamp_halves
