use Rattle.window_fn.proofs.Choosing.{aggregated_alike}
use Rattle.window_fn.proofs.laws.order_doesnt_matter.Goals as goal

pub returns : goal.returns
returns c = aggregated_alike c.order_is_total.ensures.equal c.order_is_total.ensures.reversed c.order_is_total.ensures.transitive c.sum_ignores_order.ensures
