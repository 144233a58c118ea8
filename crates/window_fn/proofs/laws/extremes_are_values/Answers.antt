use Rattle.window_fn.proofs.Extremes.{greatest_is, least_is}
use Rattle.window_fn.proofs.laws.extremes_are_values.Goals as goal

pub returns-clause-greatest : goal.returns-clause-greatest
returns-clause-greatest c = greatest_is c.order_is_total.ensures.equal c.order_is_total.ensures.reversed c.order_is_total.ensures.transitive

pub returns-clause-least : goal.returns-clause-least
returns-clause-least c = least_is c.order_is_total.ensures.equal c.order_is_total.ensures.reversed c.order_is_total.ensures.transitive
