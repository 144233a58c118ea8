use Rattle.promql_ast.specs.Depth.{node_depth}
use Rattle.promql_ast.specs.Folds.{fold-Number, fold-Words, fold-Paren, fold-Negate, fold-Select, fold-Range, fold-Subquery, fold-Call, fold-Aggregate, fold-Pair, fold-Set}
use Rattle.promql_ast.proofs.laws.depths_are_by_nodes.Goals as goal

pub returns-clause-number : goal.returns-clause-number
returns-clause-number c = fold-Number node_depth (λ e. e.node)

pub returns-clause-words : goal.returns-clause-words
returns-clause-words c = fold-Words node_depth (λ e. e.node)

pub returns-clause-paren : goal.returns-clause-paren
returns-clause-paren c = fold-Paren node_depth (λ e. e.node)

pub returns-clause-negate : goal.returns-clause-negate
returns-clause-negate c = fold-Negate node_depth (λ e. e.node)

pub returns-clause-select : goal.returns-clause-select
returns-clause-select c = fold-Select node_depth (λ e. e.node)

pub returns-clause-range : goal.returns-clause-range
returns-clause-range c = fold-Range node_depth (λ e. e.node)

pub returns-clause-subquery : goal.returns-clause-subquery
returns-clause-subquery c = fold-Subquery node_depth (λ e. e.node)

pub returns-clause-call : goal.returns-clause-call
returns-clause-call c = fold-Call node_depth (λ e. e.node)

pub returns-clause-aggregate : goal.returns-clause-aggregate
returns-clause-aggregate c = fold-Aggregate node_depth (λ e. e.node)

pub returns-clause-pair : goal.returns-clause-pair
returns-clause-pair c = fold-Pair node_depth (λ e. e.node)

pub returns-clause-set : goal.returns-clause-set
returns-clause-set c = fold-Set node_depth (λ e. e.node)
