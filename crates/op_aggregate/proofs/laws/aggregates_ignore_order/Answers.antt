use Rattle.op_aggregate.proofs.Alike.{aggregate_alike}
use Rattle.op_aggregate.proofs.laws.aggregates_ignore_order.Goals as goal

pub returns : goal.returns
returns c = aggregate_alike c.sum_ignores_order.ensures c.arithmetic_gives_numbers.ensures.numbers c.sums_are_numbers.ensures.mean c.sums_are_numbers.ensures.denominator c.order_doesnt_matter.ensures
