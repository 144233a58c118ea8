use Rattle.promql_ast.proofs.EdgedTrees.{last_counts}
use Rattle.promql_ast.proofs.edge.last_edge_counts.Goals as goal

pub returns : goal.returns
returns c = last_counts
