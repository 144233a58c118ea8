-- A filter that goes into its selector means what it meant.
use Rattle.std.proofs.Common.{◌≡◌, ◌∙◌, List, ◌++◌, ap, sym, refl, true, false}
use Rattle.std.specs.Prelude.{unwrap_or}
use Rattle.label_set.specs.declared.rules.Rule.{Rule}
use Rattle.promql_ast.specs.declared.tree.Moment.{Moment}
use Rattle.ticks.specs.declared.moment.Ms.{Ms}
use Rattle.promql_meaning.specs.Filters.{MoreRulesFilterRows, MoreRulesFilterWindows}
use Rattle.promql_meaning.specs.Selecting.{Asked}
use Rattle.logical_plan.specs.Lowering.{planned}
use Rattle.logical_plan.specs.declared.nodes.Plan.{Plan}
use Rattle.logical_plan.specs.declared.nodes.PlanNode.{PlanNode}
use Rattle.logical_plan.specs.declared.nodes.PlanNode.TheVariants as node
use Rattle.logical_plan.specs.declared.nodes.PlanNode.TheOpen.{PlanNode-F}
use Rattle.logical_plan.specs.declared.nodes.PlanNode.TheViews.{out-PlanNode, roll-PlanNode, roll-out-PlanNode}
use Rattle.plan_rewrite.specs.FilteredSelectors.{range_kept, select_kept}
use Rattle.plan_rewrite.specs.NodeMeanings.{at_filter, rolled_means}
use Rattle.plan_rewrite.specs.Rebuilding.{KeepsMeaning, node_of}
use Rattle.plan_rewrite.specs.RuleLaws.{added_together}
use Rattle.opt_pushdown.specs.Pushing.{push_filter, selector_with}

module _ (rows_pass : MoreRulesFilterRows) (windows_pass : MoreRulesFilterWindows) (asked : Asked) where
  module _ (base : Plan) (more : List Rule) where
    -- what the filter becomes where this stands below it
    abbrev Stays : PlanNode-F PlanNode Plan → Type 0
    Stays y = node_of asked (unwrap_or (selector_with more y) (node.Filter base more)) ≡ node_of asked (roll-PlanNode (PlanNode-F.Filter base more))

    kept : node_of asked (node.Filter base more) ≡ node_of asked (roll-PlanNode (PlanNode-F.Filter base more))
    kept = at_filter asked base more ∙ sym (rolled_means asked (PlanNode-F.Filter base more))

    -- the filter over a node that is known
    over : (n : PlanNode) → base.node ≡ n → node_of asked (node.Filter (planned base.at n) more) ≡ node_of asked (node.Filter base more)
    over n is = ap (λ (m : PlanNode). node_of asked (node.Filter (planned base.at m) more)) (sym is)

    node_is : (y : PlanNode-F PlanNode Plan) → out-PlanNode base.node ≡ y → base.node ≡ roll-PlanNode y
    node_is y is = sym (roll-out-PlanNode base.node) ∙ ap roll-PlanNode is

    select_stays : (rules : List Rule) (moment : Moment) → out-PlanNode base.node ≡ PlanNode-F.Select rules moment false → Stays (PlanNode-F.Select rules moment false)
    unfolding roll-PlanNode denote.Hole.Carrier.roll
    select_stays rules moment is =
        sym (select_kept rows_pass windows_pass asked (rules ++ more) rules more (added_together asked rules more) base.at moment)
        ∙ over (node.Select rules moment false) (node_is (PlanNode-F.Select rules moment false) is) ∙ kept

    range_stays : (rules : List Rule) (moment : Moment) (range : Ms) → out-PlanNode base.node ≡ PlanNode-F.Range rules moment range → Stays (PlanNode-F.Range rules moment range)
    unfolding roll-PlanNode denote.Hole.Carrier.roll
    range_stays rules moment range is =
        sym (range_kept rows_pass windows_pass asked (rules ++ more) rules more (added_together asked rules more) base.at moment range)
        ∙ over (node.Range rules moment range) (node_is (PlanNode-F.Range rules moment range) is) ∙ kept

    filter_stays : (y : PlanNode-F PlanNode Plan) → out-PlanNode base.node ≡ y → Stays y
    filter_stays (PlanNode-F.Select rules moment false) is = select_stays rules moment is
    filter_stays (PlanNode-F.Range rules moment range) is = range_stays rules moment range is
    filter_stays (PlanNode-F.Select rules moment true) is = kept
    filter_stays (PlanNode-F.Number value) is = kept
    filter_stays PlanNode-F.Time is = kept
    filter_stays (PlanNode-F.Subquery inner range step moment) is = kept
    filter_stays (PlanNode-F.Element f inner arguments) is = kept
    filter_stays (PlanNode-F.Stamp inner) is = kept
    filter_stays (PlanNode-F.Window f inner arguments) is = kept
    filter_stays (PlanNode-F.Absent labels inner) is = kept
    filter_stays (PlanNode-F.Buckets quantile inner) is = kept
    filter_stays (PlanNode-F.Relabel rule inner) is = kept
    filter_stays (PlanNode-F.Sort down inner) is = kept
    filter_stays (PlanNode-F.ScalarOf inner) is = kept
    filter_stays (PlanNode-F.VectorOf inner) is = kept
    filter_stays (PlanNode-F.Group f by arguments label) is = kept
    filter_stays (PlanNode-F.Pair op left right pairing) is = kept
    filter_stays (PlanNode-F.Set op left right pairing) is = kept
    filter_stays (PlanNode-F.Filter below rules) is = kept
    filter_stays (PlanNode-F.Ratio sum count) is = kept
    filter_stays (PlanNode-F.Once inner) is = kept
    filter_stays (PlanNode-F.Gather expr kind engines) is = kept

  pub pushed_kept : KeepsMeaning asked push_filter
  pushed_kept at (PlanNode-F.Filter base rules) = filter_stays base rules (out-PlanNode base.node) refl
  pushed_kept at (PlanNode-F.Number value) = refl
  pushed_kept at PlanNode-F.Time = refl
  pushed_kept at (PlanNode-F.Select rules moment stamped) = refl
  pushed_kept at (PlanNode-F.Range rules moment range) = refl
  pushed_kept at (PlanNode-F.Subquery inner range step moment) = refl
  pushed_kept at (PlanNode-F.Element f inner arguments) = refl
  pushed_kept at (PlanNode-F.Stamp inner) = refl
  pushed_kept at (PlanNode-F.Window f inner arguments) = refl
  pushed_kept at (PlanNode-F.Absent labels inner) = refl
  pushed_kept at (PlanNode-F.Buckets quantile inner) = refl
  pushed_kept at (PlanNode-F.Relabel rule inner) = refl
  pushed_kept at (PlanNode-F.Sort down inner) = refl
  pushed_kept at (PlanNode-F.ScalarOf inner) = refl
  pushed_kept at (PlanNode-F.VectorOf inner) = refl
  pushed_kept at (PlanNode-F.Group f by arguments label) = refl
  pushed_kept at (PlanNode-F.Pair op left right pairing) = refl
  pushed_kept at (PlanNode-F.Set op left right pairing) = refl
  pushed_kept at (PlanNode-F.Ratio sum count) = refl
  pushed_kept at (PlanNode-F.Once inner) = refl
  pushed_kept at (PlanNode-F.Gather expr kind engines) = refl
