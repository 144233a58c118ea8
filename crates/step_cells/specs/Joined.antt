-- What the cells of all engines at one instant come to. (This project's own; groups are finished by the rules of Prometheus querying,
-- "Aggregation operators".)
use Rattle.std.specs.Prelude.{ℕ, ◌+◌, List, [], ◌∷◌, ◌++◌, map, fold, Option, None, Some, Result, Ok, if◌then◌else◌}
use Rattle.std.specs.List.{filter_map}
use Rattle.std.specs.Option.{ok_or, option_map, option_and_then}
use Rattle.func_table.specs.declared.table.Aggregate.{Aggregate}
use Rattle.func_table.specs.declared.table.Aggregate.TheVariants.{Sum, Avg, Min, Max, Count, Group}
use Rattle.ticks.specs.declared.moment.Ms.{Ms}
use Rattle.window_fn.specs.Aggregates.{greatest, least}
use Rattle.xfrac.specs.Arithmetic.{quotient, whole_number}
use Rattle.xfrac.specs.Sums.{Totals, fits, totals, value_of}
use Rattle.xfrac.specs.Sums.{joined as joined_totals}
use Rattle.xfrac.specs.declared.value.NumFault.{NumFault}
use Rattle.xfrac.specs.declared.value.NumFault.TheVariants as fault
use Rattle.xfrac.specs.declared.value.XFrac.{XFrac}
use Rattle.step_table.specs.Groups.{Names, gathered}
use Rattle.step_table.specs.Operators.{some_value}
use Rattle.step_table.specs.Outcomes.{lone_by, settled, shared_marks, taken}
use Rattle.step_table.specs.Sets.{step_of_rows}
use Rattle.step_table.specs.Unions.{united, with_fatal}
use Rattle.step_table.specs.declared.cells.Cell.{Cell}
use Rattle.step_table.specs.declared.cells.Cell.TheVariants as cell
use Rattle.step_table.specs.declared.cells.CellRow.{CellRow}
use Rattle.step_table.specs.declared.cells.StepCells.{StepCells}
use Rattle.step_table.specs.declared.marks.Marks.{Marks}
use Rattle.step_table.specs.declared.outcomes.Outcome.{Outcome}
use Rattle.step_table.specs.declared.step.Row.{Row}
use Rattle.step_table.specs.declared.step.Step.{Step}
use Rattle.step_table.specs.declared.windows.WindowRow.{WindowRow}
use Rattle.step_batch.specs.LentWindows.{WindowsAt}
use Rattle.promql_meaning.specs.Givens.{no_marks}

-- ---- all engines together

-- the cells of all engines
abbrev pub all_cells : List StepCells → List CellRow
all_cells [] = []
all_cells (step ∷ steps) = step.rows ++ all_cells steps

-- the notes and marks of all engines, with others
abbrev pub marks_with : Marks → List StepCells → Marks
marks_with marks [] = marks
marks_with marks (step ∷ steps) = marks_with (united marks step.marks) steps

abbrev pub all_marks : List StepCells → Marks
all_marks steps = marks_with no_marks steps

-- ---- rows and windows

-- the value in a cell
abbrev pub value_in_cell : Cell → Option XFrac
value_in_cell (cell.Value value) = Some value
value_in_cell _ = None

-- the row of a cell that has a value
abbrev pub cell_row : CellRow → Option Row
cell_row row = option_map (λ (value : XFrac). record { labels = row.labels; value = value }) (value_in_cell row.cell)

-- the rows of all engines
abbrev pub rows_in : List StepCells → List Row
rows_in steps = filter_map cell_row (all_cells steps)

-- rows of all engines together; rows that share labels are all left out, with their mark
abbrev pub joined_rows : List StepCells → Step
joined_rows steps = settled (step_of_rows (rows_in steps) (all_marks steps))

-- the window under some labels that a cell has
abbrev pub window_under : Names → Cell → Option WindowRow
window_under labels (cell.Window times values) = Some (record { labels = labels; times = times; values = values })
window_under labels _ = None

-- the windows of all engines
abbrev pub windows_in : List StepCells → List WindowRow
windows_in steps = filter_map (λ (row : CellRow). window_under row.labels row.cell) (all_cells steps)

-- windows of all engines together; windows that share labels are all left out, with their mark
abbrev pub joined_windows : Ms → List StepCells → WindowsAt
joined_windows at steps =
    record {
      at = at;
      rows = lone_by (λ (w : WindowRow). w.labels) (windows_in steps);
      marks = with_fatal (all_marks steps) (shared_marks (λ (w : WindowRow). w.labels) (windows_in steps));
    }

-- ---- groups

-- the sum and the count in a cell
abbrev pub totals_in_cell : Cell → Option Totals
totals_in_cell (cell.Sum sum) = Some sum
totals_in_cell _ = None

abbrev pub count_in_cell : Cell → ℕ
count_in_cell (cell.Count n) = n
count_in_cell _ = 0

-- sums that are merged one after another; there is none as soon as one overflows
abbrev pub merged_with : Option Totals → Totals → Option Totals
merged_with None t = None
merged_with (Some s) t = if fits (joined_totals s t) then Some (joined_totals s t) else None

abbrev pub merged : List Totals → Option Totals
merged ts = fold merged_with (Some (totals [])) ts

-- the sum divided by how many numbers it is of
abbrev pub mean_in : Totals → Option XFrac
mean_in t = quotient (value_of t) (whole_number t.count)

-- the counts of cells, added as whole numbers
abbrev pub counted_in : List Cell → ℕ
counted_in [] = 0
counted_in (c ∷ cells) = count_in_cell c + counted_in cells

-- what an aggregation makes of a group's cells
abbrev pub finished : Aggregate → List Cell → Result (Option XFrac) NumFault
finished Sum cells = some_value (ok_or (option_map value_of (merged (filter_map totals_in_cell cells))) fault.Overflow)
finished Avg cells = some_value (ok_or (option_and_then mean_in (merged (filter_map totals_in_cell cells))) fault.Overflow)
finished Min cells = Ok (Some (least (filter_map value_in_cell cells)))
finished Max cells = Ok (Some (greatest (filter_map value_in_cell cells)))
finished Count cells = Ok (Some (whole_number (counted_in cells)))
finished Group cells = Ok (Some (whole_number 1))
finished _ cells = Ok None

-- the same under the group's labels
abbrev pub finished_outcome : Aggregate → Names × List Cell → Outcome
finished_outcome f group = record { labels = group.0; value = finished f group.1 }

-- cells, each beside its labels
abbrev pub keyed_cells : List CellRow → List (Names × Cell)
keyed_cells rows = map (λ (row : CellRow). (row.labels, row.cell)) rows

-- cells of equal labels, merged and finished; a group whose merged sum overflows is left out, with that mark
abbrev pub joined_partials : Aggregate → List StepCells → Step
joined_partials f steps = taken (all_marks steps) (map (finished_outcome f) (gathered (keyed_cells (all_cells steps))))
