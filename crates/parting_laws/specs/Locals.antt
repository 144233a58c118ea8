-- Local expressions: those that engines which hold a part of the samples each can be asked for. (This project's own.)
use Rattle.std.specs.Prelude.{◌≡◌, ℕ, false, List, [], ◌∷◌}
use Rattle.func_table.specs.declared.table.Element.{Element}
use Rattle.func_table.specs.declared.table.Func.TheVariants as func
use Rattle.func_table.specs.declared.table.Window.{Window}
use Rattle.func_table.specs.declared.table.Window.TheVariants.{QuantileOver}
use Rattle.label_set.specs.Labels.{is_named}
use Rattle.label_set.specs.declared.rules.Pairing.{Pairing}
use Rattle.promql_ast.specs.declared.tree.Expr.{Expr}
use Rattle.promql_ast.specs.declared.tree.Moment.{Moment}
use Rattle.promql_ast.specs.declared.tree.Node.TheVariants as node
use Rattle.promql_ast.specs.declared.tree.Selector.{Selector}
use Rattle.ticks.specs.declared.moment.Ms.{Ms}
use Rattle.xfrac.specs.declared.value.PairOp.{PairOp}
use Rattle.promql_meaning.specs.Buckets.{bucket_label}
use Rattle.parting_laws.specs.LocalLaws.{HaveNoSelector, IsConstantScalar, has_selector, is_quantile}
use Rattle.parting_laws.specs.Portions.{IsParted}

-- an expression is local where samples are parted by some label names: a selector; a function of one vector, an operator or a function
-- of windows whose vector or windows are local, and whose other arguments are constant; no label by which samples are parted is set or
-- taken out
pub data IsLocal (names : List (List ℕ)) : Expr → Type 0 where
  selector : (e : Expr) (selector : Selector) → e.node ≡ node.Select selector → IsLocal names e
  paren : (e inner : Expr) → e.node ≡ node.Paren inner → IsLocal names inner → IsLocal names e
  sign : (e inner : Expr) → e.node ≡ node.Negate inner → IsLocal names inner → IsLocal names e
  element : (e inner : Expr) (f : Element) (others : List Expr)
      → e.node ≡ node.Call (func.Element f) (inner ∷ others) → HaveNoSelector others → IsLocal names inner → IsLocal names e
  timestamp : (e inner : Expr) → e.node ≡ node.Call func.Timestamp (inner ∷ []) → IsLocal names inner → IsLocal names e
  sort : (e inner : Expr) → e.node ≡ node.Call func.Sort (inner ∷ []) → IsLocal names inner → IsLocal names e
  sort_desc : (e inner : Expr) → e.node ≡ node.Call func.SortDesc (inner ∷ []) → IsLocal names inner → IsLocal names e
  scalar_right : (e left right : Expr) (op : PairOp) (pairing : Pairing) → e.node ≡ node.Pair op left right pairing → IsConstantScalar right → IsLocal names left → IsLocal names e
  scalar_left : (e left right : Expr) (op : PairOp) (pairing : Pairing) → e.node ≡ node.Pair op left right pairing → IsConstantScalar left → IsLocal names right → IsLocal names e
  of_range : (e windows : Expr) (f : Window) (others : List Expr) (selector : Selector) (range : Ms)
      → e.node ≡ node.Call (func.Window f) (windows ∷ others) → is_quantile f ≡ false → HaveNoSelector others → windows.node ≡ node.Range selector range → IsLocal names e
  of_subquery : (e windows inner : Expr) (f : Window) (others : List Expr) (range step : Ms) (moment : Moment)
      → e.node ≡ node.Call (func.Window f) (windows ∷ others) → is_quantile f ≡ false → HaveNoSelector others → windows.node ≡ node.Subquery inner range step moment → IsLocal names inner → IsLocal names e
  quantile_of_range : (e quantile windows : Expr) (selector : Selector) (range : Ms)
      → e.node ≡ node.Call (func.Window QuantileOver) (quantile ∷ windows ∷ []) → has_selector quantile ≡ false → windows.node ≡ node.Range selector range → IsLocal names e
  quantile_of_subquery : (e quantile windows inner : Expr) (range step : Ms) (moment : Moment)
      → e.node ≡ node.Call (func.Window QuantileOver) (quantile ∷ windows ∷ []) → has_selector quantile ≡ false → windows.node ≡ node.Subquery inner range step moment → IsLocal names inner → IsLocal names e
  label_replace : (e inner target : Expr) (label : List ℕ) (others : List Expr)
      → e.node ≡ node.Call func.LabelReplace (inner ∷ target ∷ others) → target.node ≡ node.Words label → is_named names label ≡ false → HaveNoSelector others → IsLocal names inner → IsLocal names e
  label_join : (e inner target : Expr) (label : List ℕ) (others : List Expr)
      → e.node ≡ node.Call func.LabelJoin (inner ∷ target ∷ others) → target.node ≡ node.Words label → is_named names label ≡ false → HaveNoSelector others → IsLocal names inner → IsLocal names e
  histogram_quantile : (e quantile inner : Expr)
      → e.node ≡ node.Call func.HistogramQuantile (quantile ∷ inner ∷ []) → is_named names bucket_label ≡ false → has_selector quantile ≡ false → IsLocal names inner → IsLocal names e

-- what a local expression gives is parted as the samples are
abbrev pub LocalsAreParted : Type 0
LocalsAreParted = (names : List (List ℕ)) (e : Expr) → IsLocal names e → IsParted names e
