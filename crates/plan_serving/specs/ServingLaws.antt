-- That kernels serve the plan of a query. (This project's own.)
use Rattle.std.specs.Prelude.{◌≡◌, ℕ, true, List, []}
use Rattle.match_rule.specs.Patterns.{HaveTheirPatterns}
use Rattle.promql_ast.specs.Parts.{AreWithin, parts_of}
use Rattle.promql_ast.specs.declared.tree.Expr.{Expr}
use Rattle.promql_type.specs.Judging.{judged}
use Rattle.promql_type.specs.Kinds.{is_number}
use Rattle.promql_type.specs.Replacements.{AreKept, Kept}
use Rattle.promql_type.specs.declared.replace.Placed.{Placed}
use Rattle.logical_plan.specs.Lowering.{lowered}
use Rattle.logical_plan.specs.Onces.{with_onces}
use Rattle.logical_plan.specs.PlanTypes.{typing}
use Rattle.logical_plan.specs.declared.nodes.Plan.{Plan}
use Rattle.plan_serving.specs.Filters.{IsUnfiltered}
use Rattle.plan_serving.specs.Serving.{IsServed, IsServedOver}

-- kernels serve a plan, and no filter stands in it
pub record IsServedPlain (kept : Kept) (p : Plan) : Type 0 where
  pub served : IsServed kept p
  pub plain : IsUnfiltered p

-- a tree without refusals, whose patterns are kept, has such a plan
abbrev pub LoweredPlansAreServed : Type 0
LoweredPlansAreServed =
    (kept : Kept) (placed : List Placed) (longest latest : ℕ) (e : Expr) → (judged e).refusals ≡ [] → AreWithin (HaveTheirPatterns kept) longest latest (parts_of e)
    → AreKept kept (judged e).replacements placed → IsServedPlain kept (lowered placed e)

-- it stays one with its Once nodes
abbrev pub OncesKeepServing : Type 0
OncesKeepServing = (kept : Kept) (p : Plan) → IsServedPlain kept p → IsServedPlain kept (with_onces p)

-- the plan of a tree that gives a scalar or a vector gives one, with its Once nodes
abbrev pub LoweredPlansGiveNumbers : Type 0
LoweredPlansGiveNumbers = (placed : List Placed) (e : Expr) → is_number (judged e).operand.gives ≡ true → is_number (typing (with_onces (lowered placed e))).kind ≡ true

-- what kernels serve without engines they serve over engines too
abbrev pub ServedPlansAreServedOver : Type 0
ServedPlansAreServedOver = (kept : Kept) (p : Plan) → IsServed kept p → IsServedOver kept p
