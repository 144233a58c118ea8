use Rattle.window_fn.proofs.Numbers.{aggregates_are, windows_are}
use Rattle.window_fn.proofs.laws.windows_give_numbers.Goals as goal

pub returns-clause-aggregates : goal.returns-clause-aggregates
returns-clause-aggregates c =
    aggregates_are c.arithmetic_gives_numbers.ensures.formed c.sums_are_numbers.ensures.denominator c.sums_are_numbers.ensures.sum c.sums_are_numbers.ensures.mean c.rounding_gives_numbers.ensures.floor

pub returns-clause-windows : goal.returns-clause-windows
returns-clause-windows c =
    windows_are c.arithmetic_gives_numbers.ensures.formed c.sums_are_numbers.ensures.denominator c.sums_are_numbers.ensures.sum c.sums_are_numbers.ensures.mean c.rounding_gives_numbers.ensures.floor
