-- What each kind of node means, by what its parts mean.
use Rattle.std.proofs.Common.{◌≡◌, ◌∙◌, ℕ, ◌+◌, ◌<◌, List, [], map, ap, sym, arith}
use Rattle.std.specs.Prelude.{ℤ, max}
use Rattle.func_table.specs.declared.table.Func.{Func}
use Rattle.func_table.specs.declared.table.Aggregate.{Aggregate}
use Rattle.func_table.specs.declared.table.SetOp.{SetOp}
use Rattle.label_set.specs.declared.rules.Grouping.{Grouping}
use Rattle.label_set.specs.declared.rules.Pairing.{Pairing}
use Rattle.ticks.specs.declared.moment.Ms.{Ms}
use Rattle.xfrac.specs.declared.value.PairOp.{PairOp}
use Rattle.xfrac.specs.declared.value.XFrac.{XFrac}
use Rattle.step_table.specs.Groups.{Names}
use Rattle.step_table.specs.Sets.{combined}
use Rattle.step_table.specs.declared.marks.Marks.{Marks}
use Rattle.promql_ast.specs.declared.tree.Moment.{Moment}
use Rattle.promql_ast.specs.declared.tree.Selector.{Selector}
use Rattle.promql_ast.specs.declared.tree.Expr.{Expr}
use Rattle.promql_ast.specs.declared.tree.Node.TheVariants.{Number, Words, Paren, Negate, Select, Range, Subquery, Call, Aggregate as Aggregated, Pair, Set}
use Rattle.promql_ast.specs.declared.tree.Node.TheOpen.{Node-F}
use Rattle.promql_ast.specs.Depth.{depth, node_depth}
use Rattle.promql_ast.specs.Folds.{fold-Number, fold-Words, fold-Paren, fold-Negate, fold-Select, fold-Range, fold-Subquery, fold-Call, fold-Aggregate, fold-Pair, fold-Set}
use Rattle.promql_meaning.specs.declared.given.Given.{Given}
use Rattle.promql_meaning.specs.declared.given.Given.TheVariants as given
use Rattle.promql_meaning.specs.Givens.{no_marks, scalar_step, step_of}
use Rattle.promql_meaning.specs.Meaning.{aggregation, called, given_at, meaning, meaning_step, negation, node_meaning, operation}
use Rattle.promql_meaning.specs.Selecting.{Asked, moment_of}
use Rattle.promql_meaning.specs.Subqueries.{as_times, gathered_windows, marks_over, multiples, rows_over}

module _ (asked : Asked) (e : Expr) (t : ℤ) where
  abbrev own_meaning : Node-F (ℤ → Given) (ℤ → Given) → Given
  own_meaning n = node_meaning asked n t

  at_t : (n : Node-F (ℤ → Given) (ℤ → Given)) → meaning asked e ≡ node_meaning asked n → own_meaning n ≡ meaning asked e t
  at_t n is = sym (ap (λ f. f t) is)

  pub means_Number : (value : XFrac) → e.node ≡ Number value → given.Scalar (scalar_step value) ≡ meaning asked e t
  means_Number value is = at_t (Node-F.Number value) (fold-Number (node_meaning asked) (λ e. e.node) e value is)

  pub means_Words : (text : List ℕ) → e.node ≡ Words text → given.Words text ≡ meaning asked e t
  means_Words text is = at_t (Node-F.Words text) (fold-Words (node_meaning asked) (λ e. e.node) e text is)

  pub means_Paren : (inner : Expr) → e.node ≡ Paren inner → meaning asked inner t ≡ meaning asked e t
  means_Paren inner is = at_t (Node-F.Paren (meaning asked inner)) (fold-Paren (node_meaning asked) (λ e. e.node) e inner is)

  pub means_Negate : (inner : Expr) → e.node ≡ Negate inner → negation (meaning asked inner t) ≡ meaning asked e t
  means_Negate inner is = at_t (Node-F.Negate (meaning asked inner)) (fold-Negate (node_meaning asked) (λ e. e.node) e inner is)

  pub means_Select : (selector : Selector) → e.node ≡ Select selector → own_meaning (Node-F.Select selector) ≡ meaning asked e t
  means_Select selector is = at_t (Node-F.Select selector) (fold-Select (node_meaning asked) (λ e. e.node) e selector is)

  pub means_Range : (selector : Selector) (range : Ms) → e.node ≡ Range selector range → own_meaning (Node-F.Range selector range) ≡ meaning asked e t
  means_Range selector range is = at_t (Node-F.Range selector range) (fold-Range (node_meaning asked) (λ e. e.node) e selector range is)

  -- windows at the multiples of a step, where the moment and what came at each of them are known
  pub means_Subquery : (inner : Expr) (range step : Ms) (moment : Moment) (m : Ms) (us : List Ms) (rows : List (Names × (Ms × XFrac))) (marks : Marks) → e.node ≡ Subquery inner range step moment
      → m.0 ≡ moment_of asked moment t → us ≡ as_times (multiples moment.closed m.0 range.0 step.0) → rows ≡ rows_over (meaning_step asked inner) us → marks ≡ marks_over (meaning_step asked inner) no_marks us
      → given.Windows (record { moment = m; range = range; rules = []; rows = gathered_windows rows; marks = marks }) ≡ meaning asked e t
  means_Subquery inner range step moment m us rows marks is here times read united =
      let meant = meaning_step asked inner in
      let W : ℤ → List (Names × (Ms × XFrac)) → Marks → Given = λ u rs ms. given.Windows (record { moment = record { 0 = u }; range = range; rules = []; rows = gathered_windows rs; marks = ms }) in
      let last = at_t (Node-F.Subquery (meaning asked inner) range step moment) (fold-Subquery (node_meaning asked) (λ e. e.node) e inner range step moment is) in
      ap (λ rs. W m.0 rs marks) (read ∙ ap (rows_over meant) times) ∙ ap (λ ms. W m.0 (rows_over meant (as_times (multiples moment.closed m.0 range.0 step.0))) ms) (united ∙ ap (marks_over meant no_marks) times)
      ∙ ap (λ u. W u (rows_over meant (as_times (multiples moment.closed u range.0 step.0))) (marks_over meant no_marks (as_times (multiples moment.closed u range.0 step.0)))) here ∙ last

  pub means_Call : (f : Func) (items : List Expr) (givens : List Given) → e.node ≡ Call f items → givens ≡ given_at (map (meaning asked) items) t → called f givens t ≡ meaning asked e t
  means_Call f items givens is all =
      ap (λ gs. called f gs t) all ∙ at_t (Node-F.Call f (map (meaning asked) items)) (fold-Call (node_meaning asked) (λ e. e.node) e f items is)

  pub means_Aggregate : (f : Aggregate) (by : Grouping) (items : List Expr) (givens : List Given) → e.node ≡ Aggregated f by items → givens ≡ given_at (map (meaning asked) items) t
      → given.Vector (aggregation f by givens) ≡ meaning asked e t
  means_Aggregate f by items givens is all =
      ap (λ gs. given.Vector (aggregation f by gs)) all ∙ at_t (Node-F.Aggregate f by (map (meaning asked) items)) (fold-Aggregate (node_meaning asked) (λ e. e.node) e f by items is)

  pub means_Pair : (op : PairOp) (left right : Expr) (pairing : Pairing) (l r : Given) → e.node ≡ Pair op left right pairing → l ≡ meaning asked left t → r ≡ meaning asked right t
      → operation op pairing l r ≡ meaning asked e t
  means_Pair op left right pairing l r is on_left on_right =
      ap (λ g. operation op pairing g r) on_left ∙ ap (operation op pairing (meaning asked left t)) on_right
      ∙ at_t (Node-F.Pair op (meaning asked left) (meaning asked right) pairing) (fold-Pair (node_meaning asked) (λ e. e.node) e op left right pairing is)

  pub means_Set : (op : SetOp) (left right : Expr) (pairing : Pairing) (l r : Given) → e.node ≡ Set op left right pairing → l ≡ meaning asked left t → r ≡ meaning asked right t
      → given.Vector (combined (step_of l) (step_of r) op pairing) ≡ meaning asked e t
  means_Set op left right pairing l r is on_left on_right =
      ap (λ g. given.Vector (combined (step_of g) (step_of r) op pairing)) on_left ∙ ap (λ g. given.Vector (combined (step_of (meaning asked left t)) (step_of g) op pairing)) on_right
      ∙ at_t (Node-F.Set op (meaning asked left) (meaning asked right) pairing) (fold-Set (node_meaning asked) (λ e. e.node) e op left right pairing is)

-- ---- depths of two sides

pub depths_Pair : (e : Expr) (op : PairOp) (left right : Expr) (pairing : Pairing) → e.node ≡ Pair op left right pairing → (depth left < depth e) × (depth right < depth e)
depths_Pair e op left right pairing is =
    let d : depth e ≡ 1 + max (depth left) (depth right) = fold-Pair node_depth (λ e. e.node) e op left right pairing is in
    (omega arith, omega arith)

pub depths_Set : (e : Expr) (op : SetOp) (left right : Expr) (pairing : Pairing) → e.node ≡ Set op left right pairing → (depth left < depth e) × (depth right < depth e)
depths_Set e op left right pairing is =
    let d : depth e ≡ 1 + max (depth left) (depth right) = fold-Set node_depth (λ e. e.node) e op left right pairing is in
    (omega arith, omega arith)
