use Rattle.window_fn.proofs.Numbers.{value_is_lowest}
use Rattle.window_fn.proofs.laws.values_are_lowest.Goals as goal

pub returns : goal.returns
returns c = value_is_lowest c.numbers_are_lowest.ensures.number c.numbers_are_lowest.ensures.whole
