-- label_replace and label_join: a new value for one label of each row. (Prometheus querying, "Functions"; the limits of labels are
-- this project's own.)
use Rattle.std.specs.Prelude.{ℕ, List, [], ◌∷◌, ◌++◌, map, Option, None, Some}
use Rattle.label_set.specs.Labels.{value_of}
use Rattle.match_rule.specs.Patterns.{pattern_groups}
use Rattle.step_table.specs.Groups.{Names}
use Rattle.step_table.specs.Matching.{labelled}
use Rattle.step_table.specs.declared.step.Row.{Row}
use Rattle.step_table.specs.declared.step.Step.{Step}
use Rattle.promql_meaning.specs.Countings.{with_label}
use Rattle.promql_meaning.specs.Elements.{row_by_row}
use Rattle.promql_meaning.specs.Templates.{Spans, expanded}

-- each row under new labels; labels that would pass the limits leave it out with Overflow
abbrev pub relabelled : (Names → Option Names) → Step → Step
relabelled f step = row_by_row (λ (row : Row). labelled (f row.labels) row.value) step

-- where the pattern matches the whole value of the source, the target is set to the replacement; else the labels stay
abbrev pub replaced_labels : List ℕ → List ℕ → List ℕ → List ℕ → Names → Option Names
replaced_labels target template source pattern names = by_match (pattern_groups pattern (value_of names source))
  where
    by_match : Option Spans → Option Names
    by_match None = Some names
    by_match (Some spans) = with_label names target (expanded spans (value_of names source) template)

abbrev pub label_replaced : List ℕ → List ℕ → List ℕ → List ℕ → Step → Step
label_replaced target template source pattern step = relabelled (replaced_labels target template source pattern) step

-- texts with a separator between each two
abbrev pub separated : List ℕ → List (List ℕ) → List ℕ
separated separator [] = []
separated separator (text ∷ []) = text
separated separator (text ∷ other ∷ texts) = text ++ (separator ++ separated separator (other ∷ texts))

-- the target is set to the values of the sources, joined by the separator
abbrev pub joined_labels : List ℕ → List ℕ → List (List ℕ) → Names → Option Names
joined_labels target separator sources names = with_label names target (separated separator (map (value_of names) sources))

abbrev pub label_joined : List ℕ → List ℕ → List (List ℕ) → Step → Step
label_joined target separator sources step = relabelled (joined_labels target separator sources) step
