-- The order in which the series of an answer stand. (Prometheus querying, "sort" and "topk" of an instant query. That ties go by
-- labels, and groups by theirs, is this project's own.)
use Rattle.std.specs.Prelude.{Bool, true, false, List, [], ◌∷◌, fold, Option, None, Some}
use Rattle.std.specs.Ordering.{is_lt, ordering_then}
use Rattle.std.specs.declared.cmp.Ordering.{Ordering}
use Rattle.func_table.specs.declared.table.Func.{Func}
use Rattle.func_table.specs.declared.table.Func.TheVariants.{Sort, SortDesc}
use Rattle.func_table.specs.declared.table.Aggregate.{Aggregate}
use Rattle.func_table.specs.declared.table.Aggregate.TheVariants.{TopK, BottomK}
use Rattle.label_set.specs.Labels.{labels_cmp}
use Rattle.label_set.specs.declared.rules.Grouping.{Grouping}
use Rattle.promql_ast.specs.declared.tree.Expr.{Expr}
use Rattle.promql_ast.specs.declared.tree.Node.TheOpen.{Node-F}
use Rattle.promql_ast.specs.declared.tree.Node.TheFolds.{fold-Expr}
use Rattle.window_fn.specs.Aggregates.{inserted}
use Rattle.xfrac.specs.declared.value.XFrac.{XFrac}
use Rattle.xfrac.specs.declared.value.XFrac.TheVariants.{NaN}
use Rattle.promql_meaning.specs.declared.answer.Point.{Point}
use Rattle.promql_meaning.specs.declared.answer.ResultSeries.{ResultSeries}
use Rattle.promql_meaning.specs.Ranks.{kept_labels, value_order}

-- by value up or down, within the groups of a grouping
pub record ByValue : Type 0 where
  pub down : Bool
  pub by : Grouping

-- all rows are one group
abbrev pub ungrouped : Grouping
ungrouped = record { without = false; names = [] }

abbrev pub call_order : Func → Option ByValue
call_order Sort = Some (record { down = false; by = ungrouped })
call_order SortDesc = Some (record { down = true; by = ungrouped })
call_order _ = None

abbrev pub aggregate_order : Aggregate → Grouping → Option ByValue
aggregate_order TopK by = Some (record { down = true; by = by })
aggregate_order BottomK by = Some (record { down = false; by = by })
aggregate_order _ by = None

abbrev pub node_order : Node-F (Option ByValue) (Option ByValue) → Option ByValue
node_order (Node-F.Paren inner) = inner
node_order (Node-F.Call f arguments) = call_order f
node_order (Node-F.Aggregate f by arguments) = aggregate_order f by
node_order _ = None

-- the order that the root of an expression asks for, parentheses dropped: that of sort, sort_desc, topk and bottomk
abbrev pub root_order : Expr → Option ByValue
root_order = fold-Expr (Option ByValue) (Option ByValue) node_order (λ e. e.node)

-- the value of a series of an instant, which has one point
abbrev pub value_of_series : ResultSeries → XFrac
value_of_series series = of_points series.points
  where
    of_points : List Point → XFrac
    of_points [] = NaN
    of_points (point ∷ points) = point.value

-- groups by their labels, in a group by value, and equal values by labels
abbrev pub series_order : ByValue → ResultSeries → ResultSeries → Ordering
series_order order a b =
    ordering_then (labels_cmp (kept_labels order.by a.labels) (kept_labels order.by b.labels))
    (ordering_then (value_order order.down (value_of_series a) (value_of_series b)) (labels_cmp a.labels b.labels))

abbrev pub comes_first : ByValue → ResultSeries → ResultSeries → Bool
comes_first order a b = is_lt (series_order order a b)

-- the series sorted in that order; without one they stay in the order of their labels
abbrev pub in_order : Option ByValue → List ResultSeries → List ResultSeries
in_order None series = series
in_order (Some order) series = fold (inserted (comes_first order)) [] series
