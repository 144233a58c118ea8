-- The labels of what is absent, label by label. (Our own.)
use Rattle.std.specs.Prelude.{ℕ, List, [], ◌∷◌}
use Rattle.std.specs.List.{filter_map}
use Rattle.std.specs.Option.{option_to_list}
use Rattle.label_set.specs.Labels.{metric_name, without}
use Rattle.label_set.specs.declared.rules.Rule.{Rule}
use Rattle.step_table.specs.Groups.{Names}
use Rattle.promql_meaning.specs.Absences.{absent_pair}

-- a label with the value that it has, if it has one and isn't the metric's name
abbrev pub pairs_on : List Rule → List ℕ → Names
pairs_on rules label = without (metric_name ∷ []) (option_to_list (absent_pair rules label))

-- the same of several labels
abbrev pub pairs_among : List Rule → List (List ℕ) → Names
pairs_among rules labels = without (metric_name ∷ []) (filter_map (absent_pair rules) labels)
