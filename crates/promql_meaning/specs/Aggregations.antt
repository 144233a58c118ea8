-- Aggregations of the rows of a step. (Prometheus querying, "Aggregation operators".)
use Rattle.std.specs.Prelude.{ℕ, true, false, List, [], map, Option, None, Some, Result, Ok}
use Rattle.func_table.specs.declared.table.Aggregate.{Aggregate}
use Rattle.func_table.specs.declared.table.Aggregate.TheVariants.{Sum, Avg, Min, Max, Count, Group, Stdvar, TopK, BottomK, Quantile, CountValues}
use Rattle.label_set.specs.declared.rules.Grouping.{Grouping}
use Rattle.window_fn.specs.Aggregates.{total, average, count_of, greatest, least, variance, quantile_of}
use Rattle.xfrac.specs.Arithmetic.{whole_number}
use Rattle.xfrac.specs.declared.value.NumFault.{NumFault}
use Rattle.xfrac.specs.declared.value.XFrac.{XFrac}
use Rattle.step_table.specs.Groups.{Names, gathered}
use Rattle.step_table.specs.Operators.{some_value}
use Rattle.step_table.specs.Outcomes.{taken}
use Rattle.step_table.specs.declared.marks.Note.{Note}
use Rattle.step_table.specs.declared.outcomes.Outcome.{Outcome}
use Rattle.step_table.specs.declared.step.Row.{Row}
use Rattle.step_table.specs.declared.step.Step.{Step}
use Rattle.promql_meaning.specs.Countings.{counted}
use Rattle.promql_meaning.specs.Outcomes.{range_notes_of, with_notes}
use Rattle.promql_meaning.specs.Ranks.{kept_labels, ranked}

-- each row's value beside the labels that its group has
abbrev pub keyed_values : Grouping → List Row → List (Names × XFrac)
keyed_values by rows = map (λ (row : Row). (kept_labels by row.labels, row.value)) rows

-- what an aggregation makes of the values of a group; `q` is the quantile that is asked for. topk, bottomk and count_values are
-- no functions of the values alone
abbrev pub aggregate_of : Aggregate → XFrac → List XFrac → Result (Option XFrac) NumFault
aggregate_of Sum q values = some_value (total values)
aggregate_of Avg q values = some_value (average values)
aggregate_of Min q values = Ok (Some (least values))
aggregate_of Max q values = Ok (Some (greatest values))
aggregate_of Count q values = Ok (Some (count_of values))
aggregate_of Group q values = Ok (Some (whole_number 1))
aggregate_of Stdvar q values = some_value (variance values)
aggregate_of Quantile q values = some_value (quantile_of q values)
aggregate_of TopK q values = Ok None
aggregate_of BottomK q values = Ok None
aggregate_of CountValues q values = Ok None

abbrev pub group_outcome : Aggregate → XFrac → Names × List XFrac → Outcome
group_outcome f q group = record { labels = group.0; value = aggregate_of f q group.1 }

-- a quantile outside 0 to 1 has a note, where a group is there
abbrev pub aggregate_notes : Aggregate → XFrac → List Row → List Note
aggregate_notes Quantile q rows = range_notes_of q rows
aggregate_notes _ q rows = []

-- for all labels that rows keep, what the aggregation makes of the values of the rows that keep them
abbrev pub summarised : Aggregate → Grouping → XFrac → Step → Step
summarised f by q step =
    taken (with_notes step.marks (aggregate_notes f q step.table.rows)) (map (group_outcome f q) (gathered (keyed_values by step.table.rows)))

-- an aggregation; `arg` is the parameter of topk, bottomk and quantile, `label` that of count_values
abbrev pub aggregated : Aggregate → Grouping → XFrac → List ℕ → Step → Step
aggregated TopK by arg label step = ranked true by arg step
aggregated BottomK by arg label step = ranked false by arg step
aggregated CountValues by arg label step = counted by label step
aggregated f by arg label step = summarised f by arg step
