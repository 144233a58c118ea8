-- How deep the tree of a query is: the number of nodes on its longest path. This is this project's own measure.
use Rattle.std.specs.Prelude.{ℕ, ◌+◌, List, [], ◌∷◌, max}
use Rattle.promql_ast.specs.declared.tree.Expr.{Expr}
use Rattle.promql_ast.specs.declared.tree.Node.TheOpen.{Node-F}
use Rattle.promql_ast.specs.declared.tree.Node.TheFolds.{fold-Expr}

abbrev pub greatest : List ℕ → ℕ
greatest [] = 0
greatest (n ∷ ns) = max n (greatest ns)

-- one node, with the depth of each child in its place
abbrev pub node_depth : Node-F ℕ ℕ → ℕ
node_depth (Node-F.Number value) = 1
node_depth (Node-F.Words text) = 1
node_depth (Node-F.Paren inner) = 1 + inner
node_depth (Node-F.Negate inner) = 1 + inner
node_depth (Node-F.Select selector) = 1
node_depth (Node-F.Range selector range) = 1
node_depth (Node-F.Subquery inner range step moment) = 1 + inner
node_depth (Node-F.Call f arguments) = 1 + greatest arguments
node_depth (Node-F.Aggregate f grouping arguments) = 1 + greatest arguments
node_depth (Node-F.Pair op left right pairing) = 1 + max left right
node_depth (Node-F.Set op left right pairing) = 1 + max left right

abbrev pub depth : Expr → ℕ
depth = fold-Expr ℕ ℕ node_depth (λ e. e.node)
