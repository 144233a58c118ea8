use Rattle.window_fn.proofs.Choosing.{any_alike}
use Rattle.window_fn.proofs.laws.order_of_any_size_doesnt_matter.Goals as goal

pub returns : goal.returns
returns c =
    any_alike c.order_of_any_size.ensures.equal c.order_is_total.ensures.reversed c.order_of_any_size.ensures.transitive c.numbers_are_lowest.ensures.denominator c.sums_of_any_size.ensures.order
