use Rattle.window_fn.proofs.Rising.{ascending_ranked}
use Rattle.window_fn.proofs.laws.ranks_are_of_values.Goals as goal

pub returns : goal.returns
returns c = ascending_ranked c.order_is_total.ensures.equal c.order_is_total.ensures.reversed c.order_is_total.ensures.transitive
