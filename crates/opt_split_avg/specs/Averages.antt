-- An average as a sum divided by a count. (thanos-io/promql-engine, the optimiser of averages. That it goes four deep alone is this
-- project's own: what is split stands twice in the plan, so without an end each average above would double it again.)
use Rattle.std.specs.Prelude.{ℕ, ◌+◌, nat_lt, min, max, List, [], ◌∷◌, map, if◌then◌else◌}
use Rattle.func_table.specs.declared.table.Aggregate.TheVariants.{Avg, Count, Sum}
use Rattle.logical_plan.specs.Lowering.{planned}
use Rattle.logical_plan.specs.declared.nodes.Plan.{Plan}
use Rattle.logical_plan.specs.declared.nodes.PlanNode.TheVariants.{Group, Ratio}
use Rattle.logical_plan.specs.declared.nodes.PlanNode.TheOpen.{PlanNode-F}
use Rattle.logical_plan.specs.declared.nodes.PlanNode.TheViews.{roll-PlanNode}
use Rattle.logical_plan.specs.declared.nodes.PlanNode.TheFolds.{fold-Plan}
use Rattle.plan_rewrite.specs.Rebuilding.{Change}

-- ---- how deep averages that were split stand in each other

abbrev pub most_nested : ℕ
most_nested = 4

abbrev pub deepest_of : List ℕ → ℕ
deepest_of [] = 0
deepest_of (n ∷ ns) = max n (deepest_of ns)

-- more than the most aren't counted
abbrev pub node_nested : {A : Type 0} → PlanNode-F A ℕ → ℕ
node_nested (PlanNode-F.Number value) = 0
node_nested PlanNode-F.Time = 0
node_nested (PlanNode-F.Select rules moment stamped) = 0
node_nested (PlanNode-F.Range rules moment range) = 0
node_nested (PlanNode-F.Subquery inner range step moment) = inner
node_nested (PlanNode-F.Element f inner arguments) = max inner (deepest_of arguments)
node_nested (PlanNode-F.Stamp inner) = inner
node_nested (PlanNode-F.Window f inner arguments) = max inner (deepest_of arguments)
node_nested (PlanNode-F.Absent labels inner) = inner
node_nested (PlanNode-F.Buckets quantile inner) = max quantile inner
node_nested (PlanNode-F.Relabel rule inner) = inner
node_nested (PlanNode-F.Sort down inner) = inner
node_nested (PlanNode-F.ScalarOf inner) = inner
node_nested (PlanNode-F.VectorOf inner) = inner
node_nested (PlanNode-F.Group f by arguments label) = deepest_of arguments
node_nested (PlanNode-F.Pair op left right pairing) = max left right
node_nested (PlanNode-F.Set op left right pairing) = max left right
node_nested (PlanNode-F.Filter base rules) = base
node_nested (PlanNode-F.Ratio sum count) = min most_nested (max sum count + 1)
node_nested (PlanNode-F.Once inner) = inner
node_nested (PlanNode-F.Gather expr kind engines) = 0

abbrev pub nested : Plan → ℕ
nested = fold-Plan ℕ ℕ node_nested (λ p. p.node)

-- ---- the rule

-- an average becomes the ratio of the sum and the count of the same arguments by the same grouping, where fewer than the most stand
-- in each other below it; no other node changes
abbrev pub split_average : Change
split_average at (PlanNode-F.Group Avg by arguments label) =
    if nat_lt (deepest_of (map nested arguments)) most_nested then Ratio (planned at (Group Sum by arguments label)) (planned at (Group Count by arguments label))
    else Group Avg by arguments label
split_average at y = roll-PlanNode y
