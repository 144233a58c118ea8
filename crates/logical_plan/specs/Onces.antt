-- A plan with a Once node over each largest part that is to be computed once. (This project's own.)
use Rattle.std.specs.Prelude.{◌≡◌, ℕ, ℤ, Bool, true, false, not, ◌||◌, ◌&&◌, map}
use Rattle.promql_meaning.specs.Selecting.{Asked}
use Rattle.logical_plan.specs.declared.steadiness.Facts.{Facts}
use Rattle.logical_plan.specs.declared.nodes.Plan.{Plan}
use Rattle.logical_plan.specs.declared.nodes.PlanNode.{PlanNode}
use Rattle.logical_plan.specs.declared.nodes.PlanNode.TheVariants as node
use Rattle.logical_plan.specs.declared.nodes.PlanNode.TheOpen.{PlanNode-F}
use Rattle.logical_plan.specs.declared.nodes.PlanNode.TheFolds.{fold-Plan}
use Rattle.logical_plan.specs.Lowering.{planned}
use Rattle.logical_plan.specs.PlanMeaning.{plan_meaning}
use Rattle.logical_plan.specs.Steadiness.{OncesAreSteady, is_once, node_facts}

-- a node over these plans in the places of its children
abbrev pub node_over : {A B : Type 0} → (B → Plan) → PlanNode-F A B → PlanNode
node_over of (PlanNode-F.Number value) = node.Number value
node_over of PlanNode-F.Time = node.Time
node_over of (PlanNode-F.Select rules moment stamped) = node.Select rules moment stamped
node_over of (PlanNode-F.Range rules moment range) = node.Range rules moment range
node_over of (PlanNode-F.Subquery inner range step moment) = node.Subquery (of inner) range step moment
node_over of (PlanNode-F.Element f inner arguments) = node.Element f (of inner) (map of arguments)
node_over of (PlanNode-F.Stamp inner) = node.Stamp (of inner)
node_over of (PlanNode-F.Window f inner arguments) = node.Window f (of inner) (map of arguments)
node_over of (PlanNode-F.Absent labels inner) = node.Absent labels (of inner)
node_over of (PlanNode-F.Buckets quantile inner) = node.Buckets (of quantile) (of inner)
node_over of (PlanNode-F.Relabel rule inner) = node.Relabel rule (of inner)
node_over of (PlanNode-F.Sort down inner) = node.Sort down (of inner)
node_over of (PlanNode-F.ScalarOf inner) = node.ScalarOf (of inner)
node_over of (PlanNode-F.VectorOf inner) = node.VectorOf (of inner)
node_over of (PlanNode-F.Group f by arguments label) = node.Group f by (map of arguments) label
node_over of (PlanNode-F.Pair op left right pairing) = node.Pair op (of left) (of right) pairing
node_over of (PlanNode-F.Set op left right pairing) = node.Set op (of left) (of right) pairing
node_over of (PlanNode-F.Filter base rules) = node.Filter (of base) rules
node_over of (PlanNode-F.Ratio sum count) = node.Ratio (of sum) (of count)
node_over of (PlanNode-F.Once inner) = node.Once (of inner)
node_over of (PlanNode-F.Gather expr kind engines) = node.Gather expr kind engines

-- what is known of a plan, and the plan with its Once nodes, below a Once node or not
pub record Onced : Type 0 where
  pub facts : Facts
  pub plan : Bool → Plan

abbrev pub wrapped : Bool → ℕ → PlanNode → Plan
wrapped true at n = planned at (node.Once (planned at n))
wrapped false at n = planned at n

-- a Once node stands over what is computed once, unless one stands above
abbrev pub under : ℕ → Facts → (Bool → PlanNode) → Bool → Plan
under at facts n inside = wrapped (not inside && is_once facts) at (n (inside || (not inside && is_once facts)))

-- a node over its children with theirs
abbrev pub placed_over : PlanNode-F (ℕ → Onced) Onced → ℕ → Bool → Plan
placed_over y at = under at (node_facts (λ (o : Onced). o.facts) y) (λ inside. node_over (λ (o : Onced). o.plan inside) y)

-- a Once node that is there already is placed anew
abbrev pub placed_plan : PlanNode-F (ℕ → Onced) Onced → ℕ → Bool → Plan
placed_plan (PlanNode-F.Once inner) at = inner.plan
placed_plan y at = placed_over y at

abbrev pub once_node : PlanNode-F (ℕ → Onced) Onced → ℕ → Onced
once_node y at = record { facts = node_facts (λ (o : Onced). o.facts) y; plan = placed_plan y at }

abbrev pub once_of : Plan → Onced
once_of = fold-Plan (ℕ → Onced) Onced once_node (λ p. p.node p.at)

abbrev pub with_onces : Plan → Plan
with_onces p = (once_of p).plan false

-- it means what the plan without them means, and each of its Once nodes stands over a steady plan
abbrev pub OncesKeepMeanings : Type 0
OncesKeepMeanings = (asked : Asked) (p : Plan) (t : ℤ) → plan_meaning asked (with_onces p) t ≡ plan_meaning asked p t

abbrev pub OncesStandOverSteady : Type 0
OncesStandOverSteady = (p : Plan) → OncesAreSteady (with_onces p)
