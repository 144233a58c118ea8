-- What comes of the rows of a step: a value, nothing, or a fault.
use Rattle.std.specs.Prelude.{List, map, Option, None, Some, Result, Ok, Err}
use Rattle.std.specs.List.{filter_map}
use Rattle.xfrac.specs.declared.value.NumFault.{NumFault}
use Rattle.xfrac.specs.declared.value.NumFault.TheVariants as fault
use Rattle.xfrac.specs.declared.value.XFrac.{XFrac}
use Rattle.step_table.specs.Groups.{Names, lone_items, shared_names}
use Rattle.step_table.specs.Unions.{with_fatal}
use Rattle.step_table.specs.declared.marks.Mark.{Mark}
use Rattle.step_table.specs.declared.marks.Mark.TheVariants.{Overflow, Irrational, SameLabelset, OutOfCalendar}
use Rattle.step_table.specs.declared.marks.Marks.{Marks}
use Rattle.step_table.specs.declared.outcomes.Outcome.{Outcome}
use Rattle.step_table.specs.declared.step.Row.{Row}
use Rattle.step_table.specs.declared.step.Step.{Step}

-- ---- values of any kind: numbers, windows, cells

-- what is made of a value, if there is one
abbrev pub made_of_value : {V R : Type 0} → (V → R) → Result (Option V) NumFault → Option R
made_of_value make (Ok (Some value)) = Some (make value)
made_of_value make (Ok None) = None
made_of_value make (Err f) = None

abbrev pub fault_mark : NumFault → Mark
fault_mark fault.Overflow = Overflow
fault_mark fault.Irrational = Irrational
fault_mark fault.OutOfCalendar = OutOfCalendar

-- the mark of a fault
abbrev pub mark_of_value : {V : Type 0} → Result (Option V) NumFault → Option Mark
mark_of_value (Ok value) = None
mark_of_value (Err f) = Some (fault_mark f)

-- items, each beside its labels
abbrev pub keyed_by : {R : Type 0} → (R → Names) → List R → List (Names × R)
keyed_by labels items = map (λ item. (labels item, item)) items

-- the items that share their labels with no other, in the order of labels
abbrev pub lone_by : {R : Type 0} → (R → Names) → List R → List R
lone_by labels items = lone_items (keyed_by labels items)

-- a mark for all labels that items share
abbrev pub shared_marks : {R : Type 0} → (R → Names) → List R → List Mark
shared_marks labels items = map SameLabelset (shared_names (keyed_by labels items))

-- ---- numbers

-- the row of a value
abbrev pub row_of : Outcome → Option Row
row_of outcome = made_of_value (λ (value : XFrac). record { labels = outcome.labels; value = value }) outcome.value

abbrev pub mark_of : Outcome → Option Mark
mark_of outcome = mark_of_value outcome.value

-- the rows that have a value; a row with a fault is left out, and its mark added
abbrev pub taken : Marks → List Outcome → Step
taken marks outcomes = record { table = record { rows = filter_map row_of outcomes }; marks = with_fatal marks (filter_map mark_of outcomes) }

-- the rows, each beside its labels
abbrev pub keyed : List Row → List (Names × Row)
keyed rows = keyed_by (λ (row : Row). row.labels) rows

-- rows that share labels are all left out, with a mark of these labels
abbrev pub settled : Step → Step
settled step = record {
  table = record { rows = lone_by (λ (row : Row). row.labels) step.table.rows };
  marks = with_fatal step.marks (shared_marks (λ (row : Row). row.labels) step.table.rows);
}
