use Rattle.promql_meaning.proofs.Few.{few, left_out}
use Rattle.promql_meaning.proofs.laws.ranks_are_few.Goals as goal

pub returns : goal.returns
returns c = record { few = few c.order_is_total.ensures.equal c.order_is_total.ensures.reversed c.order_is_total.ensures.transitive; left_out = left_out }
