-- A plan without the sorts that order nothing that is seen. (thanos-io/promql-engine, the optimiser that trims sorts.)
use Rattle.std.specs.Prelude.{ℕ, Bool, true, false}
use Rattle.logical_plan.specs.Lowering.{planned}
use Rattle.logical_plan.specs.Onces.{node_over}
use Rattle.logical_plan.specs.declared.nodes.Plan.{Plan}
use Rattle.logical_plan.specs.declared.nodes.PlanNode.TheVariants as node
use Rattle.logical_plan.specs.declared.nodes.PlanNode.TheOpen.{PlanNode-F}
use Rattle.logical_plan.specs.declared.nodes.PlanNode.TheFolds.{fold-Plan}

-- What becomes of a node, where a sort is kept or not: a sort that isn't kept becomes its argument. The argument of a timestamp keeps
-- its sort, that of a Once node where the Once node does, and that of no other node.
abbrev pub trim_node : PlanNode-F (ℕ → Bool → Plan) (Bool → Plan) → ℕ → Bool → Plan
trim_node (PlanNode-F.Sort down inner) at true = planned at (node.Sort down (inner false))
trim_node (PlanNode-F.Sort down inner) at false = inner false
trim_node (PlanNode-F.Stamp inner) at keeps = planned at (node.Stamp (inner true))
trim_node (PlanNode-F.Once inner) at keeps = planned at (node.Once (inner keeps))
trim_node y at keeps = planned at (node_over (λ (of : Bool → Plan). of false) y)

abbrev pub trimmed : Plan → Bool → Plan
trimmed = fold-Plan (ℕ → Bool → Plan) (Bool → Plan) trim_node (λ p. p.node p.at)

-- the root keeps its sort
abbrev pub trim : Plan → Plan
trim p = trimmed p true
