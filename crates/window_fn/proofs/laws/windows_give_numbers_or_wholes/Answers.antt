use Rattle.window_fn.proofs.Numbers.{aggregates_alike, windows_alike}
use Rattle.window_fn.proofs.laws.windows_give_numbers_or_wholes.Goals as goal

pub returns-clause-aggregates : goal.returns-clause-aggregates
returns-clause-aggregates c =
    aggregates_alike c.arithmetic_gives_numbers.ensures.formed c.sums_are_numbers.ensures.denominator c.sums_are_numbers.ensures.sum c.sums_are_numbers.ensures.mean c.rounding_gives_numbers.ensures.floor

pub returns-clause-windows : goal.returns-clause-windows
returns-clause-windows c =
    windows_alike c.arithmetic_gives_numbers.ensures.formed c.sums_are_numbers.ensures.denominator c.sums_are_numbers.ensures.sum c.sums_are_numbers.ensures.mean c.rounding_gives_numbers.ensures.floor
