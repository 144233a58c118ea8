-- count_values: how many rows have each value. (Prometheus querying, "Aggregation operators"; the limits of labels are this
-- project's own.)
use Rattle.std.specs.Prelude.{ℕ, Bool, ◌&&◌, List, [], ◌∷◌, map, length, Option, None, Some, is_some, if◌then◌else◌}
use Rattle.frac_text.specs.Spellings.{spelling}
use Rattle.label_set.specs.Labels.{is_named, metric_name, set_refusal, with_value, without}
use Rattle.label_set.specs.declared.rules.Grouping.{Grouping}
use Rattle.xfrac.specs.Arithmetic.{whole_number}
use Rattle.step_table.specs.Groups.{Names, gathered}
use Rattle.step_table.specs.Matching.{labelled}
use Rattle.step_table.specs.Outcomes.{keyed, taken}
use Rattle.step_table.specs.declared.outcomes.Outcome.{Outcome}
use Rattle.step_table.specs.declared.step.Row.{Row}
use Rattle.step_table.specs.declared.step.Step.{Step}
use Rattle.step_table.specs.Sets.{step_of_rows}
use Rattle.promql_meaning.specs.Ranks.{kept_labels}

-- labels with a value under a name, in place of the one that is there; an empty value takes it out. There are none where they
-- would pass the limits
abbrev pub with_label : Names → List ℕ → List ℕ → Option Names
with_label names label [] = Some (without (label ∷ []) names)
with_label names label (c ∷ value) = if is_some (set_refusal names label (c ∷ value)) then None else Some (with_value names label (c ∷ value))

-- under `without` a label that is listed, or the metric's name, is not set
abbrev pub is_left_out : Grouping → List ℕ → Bool
is_left_out by label = by.without && is_named (metric_name ∷ by.names) label

-- the labels that a row is counted under: those of its group, with its value's text under the label
abbrev pub counted_labels : Grouping → List ℕ → Row → Option Names
counted_labels by label row =
    if is_left_out by label then Some (kept_labels by row.labels) else with_label (kept_labels by row.labels) label (spelling row.value)

abbrev pub counting_outcome : Grouping → List ℕ → Row → Outcome
counting_outcome by label row = labelled (counted_labels by label row) row.value

-- how many rows of a list have these labels
abbrev pub count_row : Names × List Row → Row
count_row group = record { labels = group.0; value = whole_number (length group.1) }

-- for all labels that rows have, how many have them
abbrev pub tallied : Step → Step
tallied step = step_of_rows (map count_row (gathered (keyed step.table.rows))) step.marks

-- the rows under the labels that they are counted under, counted
abbrev pub counted : Grouping → List ℕ → Step → Step
counted by label step = tallied (taken step.marks (map (counting_outcome by label) step.table.rows))
