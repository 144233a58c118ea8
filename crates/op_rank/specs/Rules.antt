-- topk, bottomk, quantile and count_values over steps, each with its parameter beside it. (Prometheus querying, "Aggregation operators": the rule is
-- that of the meaning.)
use Rattle.std.specs.Prelude.{◌≤◌, ℕ, Bool, true, false, List, [], ◌∷◌, length, Option, Some, is_some, if◌then◌else◌}
use Rattle.std.specs.List.{AllByRecursion}
use Rattle.func_table.specs.declared.table.Aggregate.{Aggregate}
use Rattle.func_table.specs.declared.table.Aggregate.TheVariants.{TopK, BottomK, Quantile, CountValues}
use Rattle.label_set.specs.declared.rules.Grouping.{Grouping}
use Rattle.promql_meaning.specs.Givens.{with_scalar}
use Rattle.promql_meaning.specs.Meaning.{aggregated_with}
use Rattle.promql_meaning.specs.Ranks.{rank_count, ranked}
use Rattle.step_batch.specs.Lent.{Lent}
use Rattle.step_batch.specs.declared.steps.PlacedStep.{PlacedStep}
use Rattle.step_batch.specs.declared.steps.Slot.{Slot}
use Rattle.step_put.specs.declared.labels_left.Left.{Left}
use Rattle.step_table.specs.Timed.{StepAt}
use Rattle.step_table.specs.Unions.{with_fatal}
use Rattle.step_table.specs.declared.marks.Mark.TheVariants.{Overflow}
use Rattle.step_table.specs.declared.marks.Marks.{Marks}

-- ---- the rule

-- the aggregations that are made
abbrev pub is_ranking : Aggregate → Bool
is_ranking TopK = true
is_ranking BottomK = true
is_ranking Quantile = true
is_ranking CountValues = true
is_ranking _ = false

-- an aggregation, its groups, and the label that it sets
pub record Ranking : Type 0 where
  pub f : Aggregate
  pub by : Grouping
  pub label : List ℕ

-- what the aggregation makes of a step and of the parameter beside it, at the step's instant
abbrev pub ranked_at : Ranking → StepAt → StepAt → StepAt
ranked_at rule parameter s = record { at = s.at; step = aggregated_with rule.f rule.by rule.label parameter.step s.step }

-- what is made of each step and of the parameter beside it
abbrev pub made_of_each : (StepAt → StepAt → StepAt) → List StepAt → List StepAt → List StepAt
made_of_each make (p ∷ parameters) (s ∷ steps) = make p s ∷ made_of_each make parameters steps
made_of_each make _ _ = []

-- what is lent of what is fed
abbrev pub all_ranked : Ranking → List StepAt → List StepAt → List StepAt
all_ranked rule parameters steps = made_of_each (ranked_at rule) parameters steps

-- the first rows of each group of a step, as many as the parameter asks for
abbrev pub first_at : Bool → Grouping → StepAt → StepAt → StepAt
first_at down by parameter s = record { at = s.at; step = with_scalar (λ k. ranked down by k) parameter.step s.step }

-- ---- parameters

-- a parameter has at most one row in each step
abbrev pub IsScalar : Lent → Type 0
IsScalar lent = AllByRecursion (λ (s : PlacedStep). length s.slots ≤ 1) lent.steps

-- how many rows of each group are asked for: none where the parameter has lost its value; there may be no such number
abbrev pub count_asked : List Slot → Option ℕ
count_asked [] = Some 0
count_asked (slot ∷ slots) = rank_count slot.value

-- where there is none the step fails
abbrev pub marks_asked : Option ℕ → Marks → Marks
marks_asked count marks = if is_some count then marks else with_fatal marks (Overflow ∷ [])

-- ---- a kernel

-- what is left of labels as those of a group, and what is lent
pub record GroupedSteps : Type 0 where
  pub left : Left
  pub lent : Lent

-- what is lent: quantiles, counts of values, or first rows
abbrev pub lent_of : Aggregate → Lent → Lent → Lent → Lent
lent_of Quantile first quantiles counts = quantiles
lent_of CountValues first quantiles counts = counts
lent_of _ first quantiles counts = first

-- an aggregation, and what is lent
pub record Ranks : Type 0 where
  pub rule : Ranking
  pub lent : Lent
