-- What a part that engines are asked for has: the rules and the moment of its selector, and a depth.
use Rattle.std.proofs.Common.{◌≡◌, ◌∙◌, ◌++◌, ◌≤◌, ℕ, List, [], ◌∷◌, None, Some, arith, refl, sym, ap, subst}
use Rattle.func_table.specs.declared.table.Func.{Func}
use Rattle.func_table.specs.declared.table.Func.TheVariants as func
use Rattle.plan_serving.specs.Asking.{asked_selector, plain_selector, selector_in, stamped_selector}
use Rattle.promql_ast.specs.Depth.{depth, node_depth}
use Rattle.promql_ast.specs.Parts.{Part, node_parts, parts_of}
use Rattle.promql_ast.specs.declared.tree.Expr.{Expr}
use Rattle.promql_ast.specs.declared.tree.Node.{Node}
use Rattle.promql_ast.specs.declared.tree.Node.TheOpen.{Node-F}
use Rattle.promql_ast.specs.declared.tree.Node.TheViews.{out-Node}
use Rattle.promql_ast.specs.declared.tree.Node.TheFolds.{fold-Expr, fold-Node, fold_out-Expr, fold_out-Node, map-Node}
use Rattle.promql_ast.specs.declared.tree.Selector.{Selector}
use Rattle.step_table.specs.declared.cells.PartKind.{PartKind}
use Rattle.step_table.specs.declared.cells.PartKind.TheVariants as part

-- a fold over the layers of an expression
module _ {A : Type 0} (node_of : Node-F A A → A) where
  abbrev layer : Node-F Node Expr → Node-F A A
  layer y = map-Node Node Expr A A (fold-Node A A node_of (λ e. e.node)) (fold-Expr A A node_of (λ e. e.node)) y

  by_layer : (e : Expr) → fold-Expr A A node_of (λ e. e.node) e ≡ node_of (layer (out-Node e.node))
  by_layer e = fold_out-Expr A A node_of (λ e. e.node) e ∙ fold_out-Node A A node_of (λ e. e.node) e.node

same_selector : (a b : Selector) → Some a ≡ Some b → a ≡ b
same_selector a b e = cc

abbrev has : Selector → List Part
has s = Part.of_rules s.rules ∷ Part.of_moment s.moment ∷ []

parts_plain : (y : Node-F Node Expr) (s : Selector) → plain_selector y ≡ Some s → node_parts (layer node_parts y) ≡ has s
parts_plain (Node-F.Select selector) s e = ap has (same_selector selector s e)
parts_plain (Node-F.Number value) s e = absurd (cc)
parts_plain (Node-F.Words text) s e = absurd (cc)
parts_plain (Node-F.Paren inner) s e = absurd (cc)
parts_plain (Node-F.Negate inner) s e = absurd (cc)
parts_plain (Node-F.Range selector range) s e = absurd (cc)
parts_plain (Node-F.Subquery inner range step moment) s e = absurd (cc)
parts_plain (Node-F.Aggregate f by arguments) s e = absurd (cc)
parts_plain (Node-F.Pair op left right pairing) s e = absurd (cc)
parts_plain (Node-F.Set op left right pairing) s e = absurd (cc)
parts_plain (Node-F.Call f arguments) s e = absurd (cc)

parts_call : (f : Func) (arguments : List Expr) (s : Selector) → stamped_selector f arguments ≡ Some s → node_parts (layer node_parts (Node-F.Call f arguments)) ≡ has s
parts_call func.Timestamp (e ∷ []) s is = ap (λ (ps : List Part). ps ++ []) (by_layer node_parts e ∙ parts_plain (out-Node e.node) s is)
parts_call func.Timestamp [] s is = absurd (cc)
parts_call func.Timestamp (e ∷ f ∷ es) s is = absurd (cc)
parts_call (func.Element g) arguments s is = absurd (cc)
parts_call (func.Window g) arguments s is = absurd (cc)
parts_call func.Absent arguments s is = absurd (cc)
parts_call func.AbsentOver arguments s is = absurd (cc)
parts_call func.HistogramQuantile arguments s is = absurd (cc)
parts_call func.LabelJoin arguments s is = absurd (cc)
parts_call func.LabelReplace arguments s is = absurd (cc)
parts_call func.Scalar arguments s is = absurd (cc)
parts_call func.Sort arguments s is = absurd (cc)
parts_call func.SortDesc arguments s is = absurd (cc)
parts_call func.Time arguments s is = absurd (cc)
parts_call func.Vector arguments s is = absurd (cc)

parts_node : (y : Node-F Node Expr) (s : Selector) → selector_in y ≡ Some s → node_parts (layer node_parts y) ≡ has s
parts_node (Node-F.Select selector) s e = ap has (same_selector selector s e)
parts_node (Node-F.Call f arguments) s e = parts_call f arguments s e
parts_node (Node-F.Number value) s e = absurd (cc)
parts_node (Node-F.Words text) s e = absurd (cc)
parts_node (Node-F.Paren inner) s e = absurd (cc)
parts_node (Node-F.Negate inner) s e = absurd (cc)
parts_node (Node-F.Range selector range) s e = absurd (cc)
parts_node (Node-F.Subquery inner range step moment) s e = absurd (cc)
parts_node (Node-F.Aggregate f by arguments) s e = absurd (cc)
parts_node (Node-F.Pair op left right pairing) s e = absurd (cc)
parts_node (Node-F.Set op left right pairing) s e = absurd (cc)

pub asked_parts : (kind : PartKind) (e : Expr) (s : Selector) → asked_selector kind e ≡ Some s → parts_of e ≡ has s
asked_parts part.Rows e s is = by_layer node_parts e ∙ parts_node (out-Node e.node) s is
asked_parts part.Windows e s is = absurd (cc)
asked_parts (part.Partial f by) e s is = absurd (cc)

deep_node : (y : Node-F Node Expr) → 1 ≤ node_depth (layer node_depth y)
deep_node (Node-F.Number value) = omega arith
deep_node (Node-F.Words text) = omega arith
deep_node (Node-F.Paren inner) = omega arith
deep_node (Node-F.Negate inner) = omega arith
deep_node (Node-F.Select selector) = omega arith
deep_node (Node-F.Range selector range) = omega arith
deep_node (Node-F.Subquery inner range step moment) = omega arith
deep_node (Node-F.Call f arguments) = omega arith
deep_node (Node-F.Aggregate f by arguments) = omega arith
deep_node (Node-F.Pair op left right pairing) = omega arith
deep_node (Node-F.Set op left right pairing) = omega arith

-- an expression is at least one deep
pub some_depth : (e : Expr) → 1 ≤ depth e
some_depth e = subst (λ (n : ℕ). 1 ≤ n) (sym (by_layer node_depth e)) (deep_node (out-Node e.node))
