use Rattle.exchange.proofs.Sorting.{in_order_is}
use Rattle.exchange.proofs.laws.asks_are_in_order.Goals as goal

pub returns : goal.returns
returns c = in_order_is
