-- Aggregations over steps. (Prometheus querying, "Aggregation operators": the rule is that of the meaning.)
use Rattle.std.specs.Prelude.{Bool, true, false, List, [], map, if◌then◌else◌}
use Rattle.func_table.specs.declared.table.Aggregate.{Aggregate}
use Rattle.func_table.specs.declared.table.Aggregate.TheVariants.{TopK, BottomK, Quantile, CountValues}
use Rattle.label_set.specs.declared.rules.Grouping.{Grouping}
use Rattle.promql_meaning.specs.Meaning.{aggregated_with}
use Rattle.step_batch.specs.Lent.{Lent}
use Rattle.step_cells.specs.Owed.{partial_cells}
use Rattle.step_table.specs.Timed.{StepAt}
use Rattle.step_table.specs.declared.cells.StepCells.{StepCells}
use Rattle.step_table.specs.declared.step.Step.{Step}

-- whether an aggregation makes one value of a group, and takes no parameter
abbrev pub is_grouped : Aggregate → Bool
is_grouped TopK = false
is_grouped BottomK = false
is_grouped Quantile = false
is_grouped CountValues = false
is_grouped f = true

-- what such an aggregation makes of a step; it reads no parameter
abbrev pub aggregated_step : Aggregate → Grouping → Step → Step
aggregated_step f by step = aggregated_with f by [] step step

abbrev pub aggregated_at : Aggregate → Grouping → StepAt → StepAt
aggregated_at f by s = record { at = s.at; step = aggregated_step f by s.step }

-- what is lent of what is fed: of each step what the aggregation makes of it, at the step's instant
abbrev pub aggregations : Aggregate → Grouping → List StepAt → List StepAt
aggregations f by steps = map (aggregated_at f by) steps

-- what is owed of what is fed, where cells are asked for: of each step the cells of its groups
abbrev pub owed_cells : Bool → Aggregate → Grouping → List StepAt → List StepCells
owed_cells partial f by steps = if partial then map (partial_cells f by) steps else []

-- ---- a kernel

-- an aggregation with its grouping, what is lent, and whether cells are asked for and which are owed
pub record Aggregating : Type 0 where
  pub f : Aggregate
  pub by : Grouping
  pub lent : Lent
  pub partial : Bool
  pub owed : List StepCells
