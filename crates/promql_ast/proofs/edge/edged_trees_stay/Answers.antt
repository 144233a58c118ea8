use Rattle.promql_ast.proofs.EdgedTrees.{stay}
use Rattle.promql_ast.proofs.edge.edged_trees_stay.Goals as goal

pub returns : goal.returns
returns c = stay
