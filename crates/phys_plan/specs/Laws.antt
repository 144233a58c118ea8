-- What users of trees of plans rely on. (This project's own.)
use Rattle.logical_plan.specs.Steadiness.{OncesAreSteady}
use Rattle.logical_plan.specs.declared.nodes.Plan.{Plan}
use Rattle.promql_meaning.specs.Selecting.{Asked}
use Rattle.plan_parts.specs.Parts.{OncesStay}

-- what stands below the Once nodes of a lowered plan gives the same at all instants
abbrev pub SteadyOncesStay : Type 0
SteadyOncesStay = (asked : Asked) (p : Plan) → OncesAreSteady p → OncesStay asked p
