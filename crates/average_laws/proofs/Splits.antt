-- An average that is split is a ratio of a sum and a count of equal arguments, and the other ratios stay such.
use Rattle.std.proofs.Common.{◌≡◌, ℕ, List, map, sym, refl, subst, Bool, true, false}
use Rattle.std.specs.Prelude.{nat_lt, if◌then◌else◌}
use Rattle.std.specs.List.{AllByRecursion}
use Rattle.func_table.specs.declared.table.Aggregate.{Aggregate}
use Rattle.func_table.specs.declared.table.Aggregate.TheVariants as aggregate
use Rattle.label_set.specs.declared.rules.Grouping.{Grouping}
use Rattle.logical_plan.specs.Lowering.{planned}
use Rattle.logical_plan.specs.declared.nodes.Plan.{Plan}
use Rattle.logical_plan.specs.declared.nodes.PlanNode.{PlanNode}
use Rattle.logical_plan.specs.declared.nodes.PlanNode.TheVariants as node
use Rattle.logical_plan.specs.declared.nodes.PlanNode.TheOpen.{PlanNode-F}
use Rattle.logical_plan.specs.declared.nodes.PlanNode.TheViews.{roll-PlanNode, outs-Group, outs-Ratio}
use Rattle.plan_rewrite.specs.Rebuilding.{rebuilt}
use Rattle.opt_split_avg.specs.Averages.{deepest_of, most_nested, nested, split_average}
use Rattle.average_laws.specs.Divided.{Layer, averages_under, rolls}
use Rattle.average_laws.specs.Keeping.{KeepsAverages}
use Rattle.average_laws.specs.Ratios.{HasAverages, IsAverage}
use Rattle.average_laws.proofs.Rebuilt.{averages_of, over_averages, over_ratio, rebuilt_keeps}

group_averages : (at : ℕ) (f : Aggregate) (by : Grouping) (arguments : List Plan) (label : List ℕ) → AllByRecursion HasAverages arguments → HasAverages (planned at (node.Group f by arguments label))
group_averages at f by arguments label all =
    subst (λ (n : PlanNode). HasAverages (planned at n)) (sym (rolls (node.Group f by arguments label) (PlanNode-F.Group f by arguments label) (rw outs-Group refl)))
    (over_averages at (PlanNode-F.Group f by arguments label) (averages_of arguments all))

halves : (at : ℕ) (by : Grouping) (arguments : List Plan) (label : List ℕ) → IsAverage (planned at (node.Group aggregate.Sum by arguments label), planned at (node.Group aggregate.Count by arguments label))
halves at by arguments label = record { sum_at = at; count_at = at; grouping = by; arguments = arguments; label = label; sum = refl; count = refl }

split_group : (at : ℕ) (by : Grouping) (arguments : List Plan) (label : List ℕ) → AllByRecursion HasAverages arguments → (b : Bool)
    → HasAverages (planned at (if b then node.Ratio (planned at (node.Group aggregate.Sum by arguments label)) (planned at (node.Group aggregate.Count by arguments label)) else node.Group aggregate.Avg by arguments label))
split_group at by arguments label all false = group_averages at aggregate.Avg by arguments label all
split_group at by arguments label all true =
    let sum = planned at (node.Group aggregate.Sum by arguments label) in
    let count = planned at (node.Group aggregate.Count by arguments label) in
    subst (λ (n : PlanNode). HasAverages (planned at n)) (sym (rolls (node.Ratio sum count) (PlanNode-F.Ratio sum count) (rw outs-Ratio refl)))
    (over_ratio at sum count (halves at by arguments label) (group_averages at aggregate.Sum by arguments label all) (group_averages at aggregate.Count by arguments label all))

-- ---- each node

split_node : (at : ℕ) (y : Layer) → HasAverages (planned at (roll-PlanNode y)) → HasAverages (planned at (split_average at y))
split_node at (PlanNode-F.Group aggregate.Avg by arguments label) all =
    split_group at by arguments label (averages_under at (PlanNode-F.Group aggregate.Avg by arguments label) all) (nat_lt (deepest_of (map nested arguments)) most_nested)
split_node at (PlanNode-F.Group aggregate.Sum by arguments label) all = all
split_node at (PlanNode-F.Group aggregate.Min by arguments label) all = all
split_node at (PlanNode-F.Group aggregate.Max by arguments label) all = all
split_node at (PlanNode-F.Group aggregate.Count by arguments label) all = all
split_node at (PlanNode-F.Group aggregate.Group by arguments label) all = all
split_node at (PlanNode-F.Group aggregate.Stdvar by arguments label) all = all
split_node at (PlanNode-F.Group aggregate.TopK by arguments label) all = all
split_node at (PlanNode-F.Group aggregate.BottomK by arguments label) all = all
split_node at (PlanNode-F.Group aggregate.Quantile by arguments label) all = all
split_node at (PlanNode-F.Group aggregate.CountValues by arguments label) all = all
split_node at PlanNode-F.Time all = all
split_node at (PlanNode-F.Number value) all = all
split_node at (PlanNode-F.Select rules moment stamped) all = all
split_node at (PlanNode-F.Range rules moment range) all = all
split_node at (PlanNode-F.Subquery inner range step moment) all = all
split_node at (PlanNode-F.Element f inner arguments) all = all
split_node at (PlanNode-F.Stamp inner) all = all
split_node at (PlanNode-F.Window f inner arguments) all = all
split_node at (PlanNode-F.Absent labels inner) all = all
split_node at (PlanNode-F.Buckets quantile inner) all = all
split_node at (PlanNode-F.Relabel rule inner) all = all
split_node at (PlanNode-F.Sort down inner) all = all
split_node at (PlanNode-F.ScalarOf inner) all = all
split_node at (PlanNode-F.VectorOf inner) all = all
split_node at (PlanNode-F.Pair op left right pairing) all = all
split_node at (PlanNode-F.Set op left right pairing) all = all
split_node at (PlanNode-F.Filter base rules) all = all
split_node at (PlanNode-F.Ratio sum count) all = all
split_node at (PlanNode-F.Once inner) all = all
split_node at (PlanNode-F.Gather expr kind engines) all = all

-- the two aggregations of which an average is made stay
data IsHalf : Aggregate → Type 0 where
  half_sum : IsHalf aggregate.Sum
  half_count : IsHalf aggregate.Count

half_stays : (at : ℕ) (f : Aggregate) (by : Grouping) (arguments : List Plan) (label : List ℕ) → IsHalf f → split_average at (PlanNode-F.Group f by arguments label) ≡ roll-PlanNode (PlanNode-F.Group f by arguments label)
half_stays at _ by arguments label half_sum = refl
half_stays at _ by arguments label half_count = refl

pub splits_keep_averages : KeepsAverages (rebuilt split_average)
splits_keep_averages = rebuilt_keeps split_average IsHalf half_stays half_sum half_count split_node
