-- A plan whose nodes are changed one by one, from the leaves up, and when such a change keeps what plans mean. (This project's own.)
use Rattle.std.specs.Prelude.{◌≡◌, ℕ, ℤ}
use Rattle.promql_meaning.specs.Selecting.{Asked}
use Rattle.logical_plan.specs.declared.nodes.Plan.{Plan}
use Rattle.logical_plan.specs.declared.nodes.PlanNode.{PlanNode}
use Rattle.logical_plan.specs.declared.nodes.PlanNode.TheOpen.{PlanNode-F, Plan-F}
use Rattle.logical_plan.specs.declared.nodes.PlanNode.TheViews.{out-PlanNode, roll-PlanNode}
use Rattle.logical_plan.specs.declared.nodes.PlanNode.TheFolds.{fold-Plan, fold-PlanNode}
use Rattle.logical_plan.specs.Lowering.{planned}
use Rattle.logical_plan.specs.PlanMeaning.{Meant, node_meant, plan_meaning}

-- what becomes of a node at a place whose children are changed already
abbrev pub Change : Type 0
Change = ℕ → PlanNode-F PlanNode Plan → PlanNode

abbrev pub changed : Change → Plan-F PlanNode Plan → Plan
changed change p = planned p.at (change p.at (out-PlanNode p.node))

-- a plan with each of its nodes changed
abbrev pub rebuilt : Change → Plan → Plan
rebuilt change = fold-Plan PlanNode Plan roll-PlanNode (changed change)

-- what a node means, whatever its place
abbrev pub node_of : Asked → PlanNode → Meant
node_of asked = fold-PlanNode Meant Meant (node_meant asked) (λ p. p.node)

-- each node that is changed means what it meant
abbrev pub KeepsMeaning : Asked → Change → Type 0
KeepsMeaning asked change = (at : ℕ) (y : PlanNode-F PlanNode Plan) → node_of asked (change at y) ≡ node_of asked (roll-PlanNode y)

-- two plans give the same rows, notes and marks on every list of samples and at every instant
abbrev pub MeanTheSame : Plan → Plan → Type 0
MeanTheSame p q = (asked : Asked) (t : ℤ) → plan_meaning asked p t ≡ plan_meaning asked q t
