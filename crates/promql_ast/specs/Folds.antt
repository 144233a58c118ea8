-- What a fold over the tree makes of each kind of node, for every fold: the step of the node with the children's results
-- in their places. Proofs about a fold rest on these equations.
use Rattle.std.proofs.Common.{◌≡◌, ◌∙◌, ℕ, List, map, ap, refl}
use Rattle.func_table.specs.declared.table.Func.{Func}
use Rattle.func_table.specs.declared.table.Aggregate.{Aggregate}
use Rattle.func_table.specs.declared.table.SetOp.{SetOp}
use Rattle.label_set.specs.declared.rules.Grouping.{Grouping}
use Rattle.label_set.specs.declared.rules.Pairing.{Pairing}
use Rattle.ticks.specs.declared.moment.Ms.{Ms}
use Rattle.xfrac.specs.declared.value.PairOp.{PairOp}
use Rattle.xfrac.specs.declared.value.XFrac.{XFrac}
use Rattle.promql_ast.specs.declared.tree.Moment.{Moment}
use Rattle.promql_ast.specs.declared.tree.Selector.{Selector}
use Rattle.promql_ast.specs.declared.tree.Expr.{Expr}
use Rattle.promql_ast.specs.declared.tree.Node.{Node}
use Rattle.promql_ast.specs.declared.tree.Node.TheVariants.{Number, Words, Paren, Negate, Select, Range, Subquery, Call, Aggregate as Aggregated, Pair, Set}
use Rattle.promql_ast.specs.declared.tree.Node.TheOpen.{Node-F, Expr-F}
use Rattle.promql_ast.specs.declared.tree.Node.TheViews.{outs-Number, outs-Words, outs-Paren, outs-Negate, outs-Select, outs-Range, outs-Subquery, outs-Call, outs-Aggregate, outs-Pair, outs-Set}
use Rattle.promql_ast.specs.declared.tree.Node.TheFolds.{fold-Expr, fold-Node, fold_out-Expr, fold_out-Node}

module _ {A B : Type 0} (node_step : Node-F A B → A) (expr_step : Expr-F A B → B) where
  -- the fold of an expression and of a node
  abbrev pub of : Expr → B
  of = fold-Expr A B node_step expr_step

  abbrev pub at : Node → A
  at = fold-Node A B node_step expr_step

  -- the result of an expression that begins at a place, from what its node gives
  abbrev pub made : ℕ → A → B
  made place result = expr_step (record { at = place; node = result })

  pub fold-of : (e : Expr) → of e ≡ made e.at (at e.node)
  fold-of e = fold_out-Expr A B node_step expr_step e

  node : (e : Expr) (n : Node) (a : A) → e.node ≡ n → at n ≡ a → of e ≡ made e.at a
  node e n a is gives = fold-of e ∙ ap (λ m. made e.at (at m)) is ∙ ap (made e.at) gives

  pub fold-Number : (e : Expr) (value : XFrac) → e.node ≡ Number value → of e ≡ made e.at (node_step (Node-F.Number value))
  fold-Number e value is = node e (Number value) _ is (fold_out-Node A B node_step expr_step (Number value) ∙ rw outs-Number refl)

  pub fold-Words : (e : Expr) (text : List ℕ) → e.node ≡ Words text → of e ≡ made e.at (node_step (Node-F.Words text))
  fold-Words e text is = node e (Words text) _ is (fold_out-Node A B node_step expr_step (Words text) ∙ rw outs-Words refl)

  pub fold-Paren : (e inner : Expr) → e.node ≡ Paren inner → of e ≡ made e.at (node_step (Node-F.Paren (of inner)))
  fold-Paren e inner is = node e (Paren inner) _ is (fold_out-Node A B node_step expr_step (Paren inner) ∙ rw outs-Paren refl)

  pub fold-Negate : (e inner : Expr) → e.node ≡ Negate inner → of e ≡ made e.at (node_step (Node-F.Negate (of inner)))
  fold-Negate e inner is = node e (Negate inner) _ is (fold_out-Node A B node_step expr_step (Negate inner) ∙ rw outs-Negate refl)

  pub fold-Select : (e : Expr) (selector : Selector) → e.node ≡ Select selector → of e ≡ made e.at (node_step (Node-F.Select selector))
  fold-Select e selector is = node e (Select selector) _ is (fold_out-Node A B node_step expr_step (Select selector) ∙ rw outs-Select refl)

  pub fold-Range : (e : Expr) (selector : Selector) (range : Ms) → e.node ≡ Range selector range → of e ≡ made e.at (node_step (Node-F.Range selector range))
  fold-Range e selector range is = node e (Range selector range) _ is (fold_out-Node A B node_step expr_step (Range selector range) ∙ rw outs-Range refl)

  pub fold-Subquery : (e inner : Expr) (range step : Ms) (moment : Moment) → e.node ≡ Subquery inner range step moment
      → of e ≡ made e.at (node_step (Node-F.Subquery (of inner) range step moment))
  fold-Subquery e inner range step moment is =
      node e (Subquery inner range step moment) _ is (fold_out-Node A B node_step expr_step (Subquery inner range step moment) ∙ rw outs-Subquery refl)

  pub fold-Call : (e : Expr) (f : Func) (arguments : List Expr) → e.node ≡ Call f arguments → of e ≡ made e.at (node_step (Node-F.Call f (map of arguments)))
  fold-Call e f arguments is = node e (Call f arguments) _ is (fold_out-Node A B node_step expr_step (Call f arguments) ∙ rw outs-Call refl)

  pub fold-Aggregate : (e : Expr) (f : Aggregate) (grouping : Grouping) (arguments : List Expr) → e.node ≡ Aggregated f grouping arguments
      → of e ≡ made e.at (node_step (Node-F.Aggregate f grouping (map of arguments)))
  fold-Aggregate e f grouping arguments is =
      node e (Aggregated f grouping arguments) _ is (fold_out-Node A B node_step expr_step (Aggregated f grouping arguments) ∙ rw outs-Aggregate refl)

  pub fold-Pair : (e : Expr) (op : PairOp) (left right : Expr) (pairing : Pairing) → e.node ≡ Pair op left right pairing
      → of e ≡ made e.at (node_step (Node-F.Pair op (of left) (of right) pairing))
  fold-Pair e op left right pairing is =
      node e (Pair op left right pairing) _ is (fold_out-Node A B node_step expr_step (Pair op left right pairing) ∙ rw outs-Pair refl)

  pub fold-Set : (e : Expr) (op : SetOp) (left right : Expr) (pairing : Pairing) → e.node ≡ Set op left right pairing
      → of e ≡ made e.at (node_step (Node-F.Set op (of left) (of right) pairing))
  fold-Set e op left right pairing is =
      node e (Set op left right pairing) _ is (fold_out-Node A B node_step expr_step (Set op left right pairing) ∙ rw outs-Set refl)
