-- Labels that label_replace, label_join and count_values make anew: there are none exactly where their whole set passes a limit.
-- (Prometheus querying, "Functions" and "Aggregation operators"; the limits of labels are this project's own.)
use Rattle.std.specs.Prelude.{◌≡◌, ℕ, List, map, Some, if◌then◌else◌}
use Rattle.frac_text.specs.Spellings.{spelling}
use Rattle.label_set.specs.Labels.{value_of, with_value}
use Rattle.label_set.specs.declared.rules.Grouping.{Grouping}
use Rattle.match_rule.specs.Patterns.{pattern_groups}
use Rattle.step_table.specs.Groups.{Names}
use Rattle.step_table.specs.declared.step.Row.{Row}
use Rattle.promql_meaning.specs.Countings.{counted_labels, is_left_out, with_label}
use Rattle.step_table.specs.LabelLimits.{AreWithin, unless_beyond}
use Rattle.promql_meaning.specs.Ranks.{kept_labels}
use Rattle.promql_meaning.specs.Relabels.{joined_labels, replaced_labels, separated}
use Rattle.promql_meaning.specs.Templates.{Spans, expanded}

-- a value that is set under a name
abbrev pub SetLabelsAreWithin : Type 0
SetLabelsAreWithin =
    (labels : Names) (name value : List ℕ) → AreWithin labels → with_label labels name value ≡ unless_beyond (with_value labels name value)

-- label_replace, where its pattern matches
abbrev pub ReplacedLabelsAreWithin : Type 0
ReplacedLabelsAreWithin =
    (target template source pattern : List ℕ) (spans : Spans) (labels : Names) → AreWithin labels → pattern_groups pattern (value_of labels source) ≡ Some spans
    → replaced_labels target template source pattern labels ≡ unless_beyond (with_value labels target (expanded spans (value_of labels source) template))

-- label_join
abbrev pub JoinedLabelsAreWithin : Type 0
JoinedLabelsAreWithin =
    (target separator : List ℕ) (sources : List (List ℕ)) (labels : Names) → AreWithin labels
    → joined_labels target separator sources labels ≡ unless_beyond (with_value labels target (separated separator (map (value_of labels) sources)))

-- count_values: the labels of a row's group, with its value's text under the label, unless that is left out
abbrev pub counting_labels : Grouping → List ℕ → Row → Names
counting_labels by label row =
    if is_left_out by label then kept_labels by row.labels else with_value (kept_labels by row.labels) label (spelling row.value)

abbrev pub CountedLabelsAreWithin : Type 0
CountedLabelsAreWithin =
    (by : Grouping) (label : List ℕ) (row : Row) → AreWithin row.labels → counted_labels by label row ≡ unless_beyond (counting_labels by label row)
