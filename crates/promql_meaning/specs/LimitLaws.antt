-- What users of labels that are made anew rely on: there are none exactly where their whole set would pass a limit.
use Rattle.std.specs.Prelude.{◌≡◌, List}
use Rattle.label_set.specs.declared.rules.Rule.{Rule}
use Rattle.step_table.specs.LabelLimits.{unless_beyond}
use Rattle.promql_meaning.specs.Absences.{absent_labels, absent_pairs}

-- the labels of what is absent are those that the rules tell, and there are none exactly where these pass a limit
abbrev pub AbsentLabelsAreWithin : Type 0
AbsentLabelsAreWithin = (rules : List Rule) → absent_labels rules ≡ unless_beyond (absent_pairs rules)
