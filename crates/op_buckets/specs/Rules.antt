-- histogram_quantile over steps, each with its quantile beside it. (Prometheus querying, "histogram_quantile": the rule is that of the
-- meaning.)
use Rattle.std.specs.Prelude.{◌≤◌, List, [], ◌∷◌, length}
use Rattle.std.specs.List.{AllByRecursion}
use Rattle.promql_meaning.specs.Buckets.{bucket_quantiles}
use Rattle.promql_meaning.specs.Givens.{with_scalar}
use Rattle.step_batch.specs.Lent.{Lent}
use Rattle.step_batch.specs.declared.steps.PlacedStep.{PlacedStep}
use Rattle.step_table.specs.Timed.{StepAt}

-- the quantiles of the histograms of a step, as the quantile beside it asks for, at the step's instant
abbrev pub quantiles_at : StepAt → StepAt → StepAt
quantiles_at quantile s = record { at = s.at; step = with_scalar bucket_quantiles quantile.step s.step }

-- what is lent of what is fed
abbrev pub all_quantiles : List StepAt → List StepAt → List StepAt
all_quantiles (q ∷ quantiles) (s ∷ steps) = quantiles_at q s ∷ all_quantiles quantiles steps
all_quantiles _ _ = []

-- a quantile has at most one row in each step
abbrev pub IsScalar : Lent → Type 0
IsScalar lent = AllByRecursion (λ (s : PlacedStep). length s.slots ≤ 1) lent.steps
