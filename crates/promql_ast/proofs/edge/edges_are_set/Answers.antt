use Rattle.promql_ast.proofs.EdgedTrees.{are_set}
use Rattle.promql_ast.proofs.edge.edges_are_set.Goals as goal

pub returns : goal.returns
returns c = are_set
