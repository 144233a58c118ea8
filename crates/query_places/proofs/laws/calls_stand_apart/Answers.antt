use Rattle.query_places.proofs.Laid.{stand_apart}
use Rattle.query_places.proofs.laws.calls_stand_apart.Goals as goal

pub returns : goal.returns
returns c = stand_apart c.spans_lie_in_order.ensures c.what_is_read_is_a_query.ensures c.edges_are_typed_alike.ensures.judged
