-- What a plan gives at each instant, as a scalar or as a vector. (This project's own.)
use Rattle.std.specs.Prelude.{◌≡◌, ℤ, Bool, true, false}
use Rattle.logical_plan.specs.PlanMeaning.{plan_meaning, plan_meant}
use Rattle.logical_plan.specs.declared.nodes.Plan.{Plan}
use Rattle.promql_meaning.specs.Selecting.{Asked}
use Rattle.promql_meaning.specs.declared.given.Given.{Given}
use Rattle.promql_meaning.specs.declared.given.Given.TheVariants.{Scalar, Vector}
use Rattle.step_table.specs.declared.step.Step.{Step}

-- a step of a scalar, or of a vector
abbrev pub given_as : Bool → Step → Given
given_as true step = Scalar step
given_as false step = Vector step

-- a plan gives a step at each of some instants, of scalars or of vectors; and whether the values of its rows are the samples' own times
pub record Gives (asked : Asked) (IsAsked : ℤ → Type 0) (p : Plan) (scalar own : Bool) (step : ℤ → Step) : Type 0 where
  pub stamped : (plan_meant asked p).own ≡ own
  pub gives : (t : ℤ) → IsAsked t → plan_meaning asked p t ≡ given_as scalar (step t)
