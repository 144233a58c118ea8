use Rattle.promql_meaning.proofs.Ordered.{rearranged, rises}
use Rattle.promql_meaning.proofs.laws.order_rises.Goals as goal

pub returns : goal.returns
returns c = record { rearranged = rearranged; rises = rises c.order_is_total.ensures.reversed }
