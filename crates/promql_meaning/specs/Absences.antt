-- absent and absent_over_time: one row where there are none. (Prometheus querying, "Functions". What of a selector's rules makes
-- labels is Prometheus'; the limits of labels are this project's own.)
use Rattle.std.specs.Prelude.{ℕ, Bool, true, false, ◌==◌, bytes_eq, List, [], ◌∷◌, map, filter, length, Option, None, Some, if◌then◌else◌}
use Rattle.std.specs.List.{filter_map, last_or}
use Rattle.std.specs.Option.{option_and_then, option_map}
use Rattle.label_set.specs.Labels.{byte_cmp, metric_name, without}
use Rattle.label_set.specs.declared.rules.Rule.{Rule}
use Rattle.label_set.specs.declared.rules.RuleKind.{RuleKind}
use Rattle.label_set.specs.declared.rules.RuleKind.TheVariants.{Eq}
use Rattle.xfrac.specs.Arithmetic.{whole_number}
use Rattle.step_table.specs.Groups.{Names}
use Rattle.step_table.specs.Matching.{labelled}
use Rattle.step_table.specs.Operators.{all_put}
use Rattle.step_table.specs.Outcomes.{taken}
use Rattle.step_table.specs.Unions.{set_of}
use Rattle.step_table.specs.declared.marks.Marks.{Marks}
use Rattle.step_table.specs.declared.step.Step.{Step}
use Rattle.promql_meaning.specs.Givens.{barren}

-- the text that a `=` rule has, unless that is empty
abbrev pub unless_empty : List ℕ → Option (List ℕ)
unless_empty [] = None
unless_empty (b ∷ text) = Some (b ∷ text)

abbrev pub is_equality : RuleKind → Bool
is_equality (Eq text) = true
is_equality _ = false

abbrev pub equal_text : RuleKind → Option (List ℕ)
equal_text (Eq text) = unless_empty text
equal_text _ = None

-- the rules on a label, in the order of the text
abbrev pub kinds_on : List Rule → List ℕ → List RuleKind
kinds_on rules label = map (λ (rule : Rule). rule.kind) (filter (λ (rule : Rule). bytes_eq rule.label label) rules)

-- the value of a label on which exactly one `=` rule stands, with a value that isn't empty, and no other rule after it
abbrev pub absent_value : List RuleKind → Option (List ℕ)
absent_value kinds = if length (filter is_equality kinds) == 1 then option_and_then equal_text (last_or None kinds) else None

-- these labels with their values, but for the metric's name, in order
abbrev pub absent_pair : List Rule → List ℕ → Option (List ℕ × List ℕ)
absent_pair rules label = option_map (λ (value : List ℕ). (label, value)) (absent_value (kinds_on rules label))

abbrev pub absent_pairs : List Rule → Names
absent_pairs rules = without (metric_name ∷ []) (filter_map (absent_pair rules) (set_of byte_cmp (map (λ (rule : Rule). rule.label) rules)))

-- the labels of what is absent; there are none where they would pass the limits
abbrev pub absent_labels : List Rule → Option Names
absent_labels rules = all_put [] (absent_pairs rules)

-- one row 1 where there are no rows, under labels that are given; there are none where they would pass the limits
abbrev pub absence_under : {A : Type 0} → Option Names → List A → Marks → Step
absence_under labels [] marks = taken marks (labelled labels (whole_number 1) ∷ [])
absence_under labels (row ∷ rows) marks = barren marks

-- one row 1 where there are no rows, under the labels that the rules of a selector tell; without a selector there are no rules
abbrev pub absence : {A : Type 0} → List Rule → List A → Marks → Step
absence rules rows marks = absence_under (absent_labels rules) rows marks
