-- A plan in which largest parts are replaced, from the root down. (This project's own.)
use Rattle.std.specs.Prelude.{ℕ, Option, unwrap_or}
use Rattle.logical_plan.specs.Lowering.{planned}
use Rattle.logical_plan.specs.Onces.{node_over}
use Rattle.logical_plan.specs.declared.nodes.Plan.{Plan}
use Rattle.logical_plan.specs.declared.nodes.PlanNode.TheOpen.{PlanNode-F}
use Rattle.logical_plan.specs.declared.nodes.PlanNode.TheFolds.{fold-Plan}

-- the plans that are put in the place of others
abbrev pub Replacing : Type 0
Replacing = Plan → Option Plan

-- a plan, and what becomes of it
pub record Descent : Type 0 where
  pub before : Plan
  pub after : Plan

-- a node at a place becomes the plan that is put in its place, or else it stands over what becomes of its children
abbrev pub descent_node : Replacing → PlanNode-F (ℕ → Descent) Descent → ℕ → Descent
descent_node f y at =
    let before = planned at (node_over (λ (d : Descent). d.before) y) in
    record { before = before; after = unwrap_or (f before) (planned at (node_over (λ (d : Descent). d.after) y)) }

abbrev pub descent : Replacing → Plan → Descent
descent f = fold-Plan (ℕ → Descent) Descent (descent_node f) (λ p. p.node p.at)

-- from the root down each part in whose place another is put is that one, and of the others the children are looked at
abbrev pub descended : Replacing → Plan → Plan
descended f p = (descent f p).after
