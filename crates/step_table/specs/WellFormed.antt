-- What is always true of steps: rows in the order of their labels, no two with equal labels, and notes and marks as sets.
use Rattle.std.specs.Prelude.{List, map}
use Rattle.std.specs.List.Sorted.{IsStrictlySortedBy}
use Rattle.label_set.specs.Labels.{labels_cmp}
use Rattle.step_table.specs.Orders.{mark_cmp, note_cmp}
use Rattle.step_table.specs.declared.marks.Marks.{Marks}
use Rattle.step_table.specs.declared.step.Row.{Row}
use Rattle.step_table.specs.declared.step.Step.{Step}

-- rows in the order of their labels, no two with equal labels
abbrev pub IsTable : List Row → Type 0
IsTable rows = IsStrictlySortedBy labels_cmp (map (λ row. row.labels) rows)

-- notes and marks in their order, each once
pub record AreSets (marks : Marks) : Type 0 where
  pub fatal : IsStrictlySortedBy mark_cmp marks.fatal
  pub notes : IsStrictlySortedBy note_cmp marks.notes

pub record IsWellFormed (step : Step) : Type 0 where
  pub rows : IsTable step.table.rows
  pub marks : AreSets step.marks
