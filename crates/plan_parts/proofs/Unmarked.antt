-- The rows of a selector, and those of its timestamp, have no notes and no marks over no samples; the windows of a range selector have none
-- over any.
use Rattle.std.proofs.Common.{◌≡◌, ◌∙◌, List, [], ◌∷◌, map, Some, refl, ap}
use Rattle.std.specs.Prelude.{ℤ}
use Rattle.func_table.specs.declared.table.Func.{Func}
use Rattle.func_table.specs.declared.table.Func.TheVariants as func
use Rattle.logical_plan.specs.Gathers.{over_samples, owed_over}
use Rattle.plan_serving.specs.Asking.{RangeAsked, asked_range, asked_selector, plain_selector, range_in, selector_in, stamped_selector}
use Rattle.promql_ast.specs.declared.tree.Expr.{Expr}
use Rattle.promql_ast.specs.declared.tree.Node.{Node}
use Rattle.promql_ast.specs.declared.tree.Node.TheOpen.{Node-F}
use Rattle.promql_ast.specs.declared.tree.Node.TheViews.{out-Node}
use Rattle.promql_ast.specs.declared.tree.Node.TheFolds.{fold-Node, fold_out-Expr, fold_out-Node, map-Node}
use Rattle.promql_ast.specs.declared.tree.Selector.{Selector}
use Rattle.promql_meaning.specs.Elements.{stamps, timestamps}
use Rattle.promql_meaning.specs.Givens.{no_marks, step_of}
use Rattle.promql_meaning.specs.Meaning.{called, given_at, meaning, node_meaning}
use Rattle.promql_meaning.specs.Selecting.{AllSeries, Asked}
use Rattle.promql_meaning.specs.declared.given.Given.{Given}
use Rattle.step_cells.specs.Owed.{windows_at}
use Rattle.step_table.specs.Groups.{gathered}
use Rattle.step_table.specs.declared.cells.PartKind.{PartKind}
use Rattle.step_table.specs.declared.cells.PartKind.TheVariants as part
use Rattle.plan_parts.specs.Gathered.{IsUnmarked}

-- the timestamps of no samples
no_stamps : (stamps []).marks ≡ no_marks
unfolding gathered
no_stamps = refl

module _ (asked : Asked) where
  abbrev A : Type 0
  A = ℤ → Given

  -- the same query over no samples
  abbrev none : Asked
  none = over_samples asked []

  -- a node with what each child gives in its place
  abbrev over : Node-F Node Expr → Node-F A A
  over y = map-Node Node Expr A A (fold-Node A A (node_meaning none) (λ e. e.node)) (meaning none) y

  means : (e : Expr) → meaning none e ≡ node_meaning none (over (out-Node e.node))
  means e = fold_out-Expr A A (node_meaning none) (λ e. e.node) e ∙ fold_out-Node A A (node_meaning none) (λ e. e.node) e.node

  stamped_marks : (y : Node-F Node Expr) (s : Selector) (t : ℤ) → plain_selector y ≡ Some s → (timestamps (node_meaning none (over y) t) t).marks ≡ no_marks
  stamped_marks (Node-F.Select selector) s t e = no_stamps
  stamped_marks (Node-F.Number value) s t e = absurd (cc)
  stamped_marks (Node-F.Words text) s t e = absurd (cc)
  stamped_marks (Node-F.Paren inner) s t e = absurd (cc)
  stamped_marks (Node-F.Negate inner) s t e = absurd (cc)
  stamped_marks (Node-F.Range selector range) s t e = absurd (cc)
  stamped_marks (Node-F.Subquery inner range step moment) s t e = absurd (cc)
  stamped_marks (Node-F.Aggregate f by arguments) s t e = absurd (cc)
  stamped_marks (Node-F.Pair op left right pairing) s t e = absurd (cc)
  stamped_marks (Node-F.Set op left right pairing) s t e = absurd (cc)
  stamped_marks (Node-F.Call f arguments) s t e = absurd (cc)

  called_marks : (f : Func) (arguments : List Expr) (s : Selector) (t : ℤ) → stamped_selector f arguments ≡ Some s → (step_of (called f (given_at (map (meaning none) arguments) t) t)).marks ≡ no_marks
  called_marks func.Timestamp (e ∷ []) s t is = ap (λ (g : A). (timestamps (g t) t).marks) (means e) ∙ stamped_marks (out-Node e.node) s t is
  called_marks func.Timestamp [] s t is = absurd (cc)
  called_marks func.Timestamp (e ∷ f ∷ es) s t is = absurd (cc)
  called_marks (func.Element g) arguments s t is = absurd (cc)
  called_marks (func.Window g) arguments s t is = absurd (cc)
  called_marks func.Absent arguments s t is = absurd (cc)
  called_marks func.AbsentOver arguments s t is = absurd (cc)
  called_marks func.HistogramQuantile arguments s t is = absurd (cc)
  called_marks func.LabelJoin arguments s t is = absurd (cc)
  called_marks func.LabelReplace arguments s t is = absurd (cc)
  called_marks func.Scalar arguments s t is = absurd (cc)
  called_marks func.Sort arguments s t is = absurd (cc)
  called_marks func.SortDesc arguments s t is = absurd (cc)
  called_marks func.Time arguments s t is = absurd (cc)
  called_marks func.Vector arguments s t is = absurd (cc)

  node_marks : (y : Node-F Node Expr) (s : Selector) (t : ℤ) → selector_in y ≡ Some s → (step_of (node_meaning none (over y) t)).marks ≡ no_marks
  node_marks (Node-F.Select selector) s t e = refl
  node_marks (Node-F.Call f arguments) s t e = called_marks f arguments s t e
  node_marks (Node-F.Number value) s t e = absurd (cc)
  node_marks (Node-F.Words text) s t e = absurd (cc)
  node_marks (Node-F.Paren inner) s t e = absurd (cc)
  node_marks (Node-F.Negate inner) s t e = absurd (cc)
  node_marks (Node-F.Range selector range) s t e = absurd (cc)
  node_marks (Node-F.Subquery inner range step moment) s t e = absurd (cc)
  node_marks (Node-F.Aggregate f by arguments) s t e = absurd (cc)
  node_marks (Node-F.Pair op left right pairing) s t e = absurd (cc)
  node_marks (Node-F.Set op left right pairing) s t e = absurd (cc)

  pub selectors_unmarked : (kind : PartKind) (expr : Expr) (s : Selector) → asked_selector kind expr ≡ Some s → IsUnmarked asked expr kind
  selectors_unmarked part.Rows expr s is t = ap (λ (g : A). (step_of (g t)).marks) (means expr) ∙ node_marks (out-Node expr.node) s t is
  selectors_unmarked part.Windows expr s is t = absurd (cc)
  selectors_unmarked (part.Partial f by) expr s is t = absurd (cc)

-- ---- windows

module _ (asked : Asked) (samples : AllSeries) where
  abbrev G : Type 0
  G = ℤ → Given

  -- the same query over these samples
  abbrev held : Asked
  held = over_samples asked samples

  abbrev layer : Node-F Node Expr → Node-F G G
  layer y = map-Node Node Expr G G (fold-Node G G (node_meaning held) (λ e. e.node)) (meaning held) y

  by_layer : (e : Expr) → meaning held e ≡ node_meaning held (layer (out-Node e.node))
  by_layer e = fold_out-Expr G G (node_meaning held) (λ e. e.node) e ∙ fold_out-Node G G (node_meaning held) (λ e. e.node) e.node

  range_marks : (y : Node-F Node Expr) (a : RangeAsked) (t : ℤ) → range_in y ≡ Some a → (windows_at (record { 0 = t }) (node_meaning held (layer y) t)).marks ≡ no_marks
  range_marks (Node-F.Range selector range) a t e = refl
  range_marks (Node-F.Number value) a t e = absurd (cc)
  range_marks (Node-F.Words text) a t e = absurd (cc)
  range_marks (Node-F.Paren inner) a t e = absurd (cc)
  range_marks (Node-F.Negate inner) a t e = absurd (cc)
  range_marks (Node-F.Select selector) a t e = absurd (cc)
  range_marks (Node-F.Subquery inner range step moment) a t e = absurd (cc)
  range_marks (Node-F.Call f arguments) a t e = absurd (cc)
  range_marks (Node-F.Aggregate f by arguments) a t e = absurd (cc)
  range_marks (Node-F.Pair op left right pairing) a t e = absurd (cc)
  range_marks (Node-F.Set op left right pairing) a t e = absurd (cc)

  pub ranges_unmarked : (expr : Expr) (a : RangeAsked) (t : ℤ) → asked_range part.Windows expr ≡ Some a → (owed_over asked expr part.Windows t samples).marks ≡ no_marks
  ranges_unmarked expr a t is = ap (λ (g : G). (windows_at (record { 0 = t }) (g t)).marks) (by_layer expr) ∙ range_marks (out-Node expr.node) a t is
