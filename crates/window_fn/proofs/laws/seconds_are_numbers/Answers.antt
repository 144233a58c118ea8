use Rattle.window_fn.proofs.Numbers.{seconds_are}
use Rattle.window_fn.proofs.laws.seconds_are_numbers.Goals as goal

pub returns : goal.returns
returns c = seconds_are c.small_terms_are_formed.ensures.fraction c.arithmetic_gives_numbers.ensures.formed
