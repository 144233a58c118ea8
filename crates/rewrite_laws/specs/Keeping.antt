-- Rewrites that keep what is typed and given, what is valid, what stands under Once nodes, and what kernels serve. (This project's own.)
use Rattle.std.specs.Prelude.{◌≡◌, ℕ}
use Rattle.logical_plan.specs.PlanTypes.{IsTyped, typing}
use Rattle.logical_plan.specs.Steadiness.{OncesAreSteady}
use Rattle.logical_plan.specs.Validity.{IsValid}
use Rattle.logical_plan.specs.declared.nodes.Plan.{Plan}
use Rattle.plan_serving.specs.Serving.{IsServed}
use Rattle.promql_type.specs.Replacements.{Kept}

-- a typed plan stays typed, and gives what it gave: a scalar, a vector or windows
pub record StaysTyped (p q : Plan) : Type 0 where
  pub typed : IsTyped q
  pub kind : (typing q).kind ≡ (typing p).kind

abbrev pub KeepsTypes : (Plan → Plan) → Type 0
KeepsTypes rewrite = (p : Plan) → IsTyped p → StaysTyped p (rewrite p)

-- a valid plan stays valid, whatever the longest length of time and the latest fixed time
abbrev pub KeepsValidity : (Plan → Plan) → Type 0
KeepsValidity rewrite = (longest latest : ℕ) (p : Plan) → IsValid longest latest p → IsValid longest latest (rewrite p)

-- what stands under Once nodes stays the same at each instant
abbrev pub KeepsOnces : (Plan → Plan) → Type 0
KeepsOnces rewrite = (p : Plan) → OncesAreSteady p → OncesAreSteady (rewrite p)

-- kernels serve what they served, whatever patterns are kept
abbrev pub KeepsServing : (Plan → Plan) → Type 0
KeepsServing rewrite = (kept : Kept) (p : Plan) → IsServed kept p → IsServed kept (rewrite p)
