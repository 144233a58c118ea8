use Rattle.promql_meaning.proofs.LeftEdges.{has_the_edge}
use Rattle.promql_meaning.proofs.laws.closed_windows_have_the_edge.Goals as goal

pub returns : goal.returns
returns c = has_the_edge
