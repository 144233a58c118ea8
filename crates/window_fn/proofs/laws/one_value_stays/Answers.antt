use Rattle.std.proofs.Common.{refl}
use Rattle.window_fn.proofs.laws.one_value_stays.Goals as goal

pub returns : goal.returns
returns c = λ value. (refl, refl)
