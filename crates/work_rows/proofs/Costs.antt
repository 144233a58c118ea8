-- What the plans of the rows cost, node by node.
use Rattle.std.proofs.Common.{◌≡◌, ◌∙◌, List, [], ◌∷◌, ap, ap₂}
use Rattle.std.specs.Prelude.{false}
use Rattle.func_table.specs.declared.table.Aggregate.TheVariants as aggregate
use Rattle.func_table.specs.declared.table.Window.TheVariants as window
use Rattle.label_set.specs.declared.rules.Pairing.{Pairing}
use Rattle.label_set.specs.declared.rules.Rule.{Rule}
use Rattle.logical_plan.specs.PlanFolds.{of-Group, of-Pair, of-Range, of-Select, of-Window}
use Rattle.logical_plan.specs.declared.nodes.PlanNode.TheVariants as node
use Rattle.plan_tree.specs.Spending.{Cost, both, nothing}
use Rattle.plan_work.specs.Measures.{node_measure}
use Rattle.plan_work.specs.PlanBounds.{Bounding, costs, plan_bound, selector_bound}
use Rattle.promql_ast.specs.declared.tree.Moment.{Moment}
use Rattle.promql_meaning.specs.Selecting.{Asked, lookback}
use Rattle.ticks.specs.declared.moment.Ms.{Ms}
use Rattle.xfrac.specs.declared.value.PairOp.{PairOp}
use Rattle.work_rows.specs.Rows.{select, sum_of}
use Rattle.work_rows.specs.Samples.{plan}

module _ (asked : Asked) where
  pub selects : (rules : List Rule) (moment : Moment) → plan_bound asked (select rules moment) ≡ selector_bound lookback asked rules moment
  selects rules moment = of-Select (node_measure (costs asked)) (λ q. q.node) 0 rules moment false

  pub ranges : (rules : List Rule) (moment : Moment) (range : Ms) → plan_bound asked (plan (node.Range rules moment range)) ≡ selector_bound range.0 asked rules moment
  ranges rules moment range = of-Range (node_measure (costs asked)) (λ q. q.node) 0 rules moment range

  pub slides : (rules : List Rule) (moment : Moment) (range : Ms) (at : List Ms)
      → plan_bound asked (plan (node.Window window.SumOver (plan (node.Range rules moment range)) [])) at ≡ both (selector_bound range.0 asked rules moment at) nothing
  slides rules moment range at =
      let alone : Bounding → Bounding = λ b t. both (b t) nothing in
      ap {B = Cost} (λ (b : Bounding). b at) (of-Window (node_measure (costs asked)) (λ q. q.node) 0 window.SumOver (plan (node.Range rules moment range)) []
      ∙ ap alone (ranges rules moment range))

  pub sums : (rules : List Rule) (moment : Moment) (at : List Ms) → plan_bound asked (sum_of (select rules moment)) at ≡ both (selector_bound lookback asked rules moment at) nothing
  sums rules moment at =
      let alone : Bounding → Bounding = λ b t. both (b t) nothing in
      ap {B = Cost} (λ (b : Bounding). b at) (of-Group (node_measure (costs asked)) (λ q. q.node) 0 aggregate.Sum (record { without = false; names = [] }) (select rules moment ∷ []) []
      ∙ ap alone (selects rules moment))

  pub pairs : (op : PairOp) (pairing : Pairing) (left right : List Rule) (moment : Moment) (at : List Ms)
      → plan_bound asked (plan (node.Pair op (select left moment) (select right moment) pairing)) at ≡ both (selector_bound lookback asked left moment at) (selector_bound lookback asked right moment at)
  pairs op pairing left right moment at =
      let beside : Bounding → Bounding → Bounding = λ a b t. both (a t) (b t) in
      ap {B = Cost} (λ (b : Bounding). b at) (of-Pair (node_measure (costs asked)) (λ q. q.node) 0 op (select left moment) (select right moment) pairing
      ∙ ap₂ beside (selects left moment) (selects right moment))
