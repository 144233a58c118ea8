-- A tree apart from the places of its expressions in the text. (This project's own.)
use Rattle.promql_ast.specs.declared.tree.Expr.{Expr}
use Rattle.promql_ast.specs.declared.tree.Node.{Node}
use Rattle.promql_ast.specs.declared.tree.Node.TheVariants.{Number, Words, Paren, Negate, Select, Range, Subquery, Call, Aggregate, Pair, Set}
use Rattle.promql_ast.specs.declared.tree.Node.TheOpen.{Node-F, Expr-F}
use Rattle.promql_ast.specs.declared.tree.Node.TheFolds.{fold-Expr}

-- one node, with the trees of its children
abbrev pub same_node : Node-F Node Expr → Node
same_node (Node-F.Number value) = Number value
same_node (Node-F.Words text) = Words text
same_node (Node-F.Paren inner) = Paren inner
same_node (Node-F.Negate inner) = Negate inner
same_node (Node-F.Select selector) = Select selector
same_node (Node-F.Range selector range) = Range selector range
same_node (Node-F.Subquery inner range step moment) = Subquery inner range step moment
same_node (Node-F.Call f arguments) = Call f arguments
same_node (Node-F.Aggregate f grouping arguments) = Aggregate f grouping arguments
same_node (Node-F.Pair op left right pairing) = Pair op left right pairing
same_node (Node-F.Set op left right pairing) = Set op left right pairing

abbrev pub at_the_start : Expr-F Node Expr → Expr
at_the_start e = record { at = 0; node = e.node }

-- the tree with each expression at place 0
abbrev pub unplaced : Expr → Expr
unplaced = fold-Expr Node Expr same_node at_the_start
