-- What an engine owes at one instant: its rows, its windows, or for each group what an aggregation makes of its values before it is
-- finished. (This project's own.)
use Rattle.std.specs.Prelude.{Bool, true, false, List, [], map, length, is_some, Option, None, Some, if◌then◌else◌}
use Rattle.std.specs.List.{filter_map}
use Rattle.std.specs.Option.{option_map}
use Rattle.func_table.specs.declared.table.Aggregate.{Aggregate}
use Rattle.func_table.specs.declared.table.Aggregate.TheVariants.{Sum, Avg, Min, Max, Count, Group}
use Rattle.label_set.specs.declared.rules.Grouping.{Grouping}
use Rattle.ticks.specs.declared.moment.Ms.{Ms}
use Rattle.window_fn.specs.Aggregates.{greatest, least}
use Rattle.xfrac.specs.Sums.{fits, totals}
use Rattle.xfrac.specs.declared.value.XFrac.{XFrac}
use Rattle.step_table.specs.Groups.{Names, gathered}
use Rattle.step_table.specs.Timed.{StepAt}
use Rattle.step_table.specs.Unions.{with_fatal}
use Rattle.step_table.specs.declared.cells.Cell.{Cell}
use Rattle.step_table.specs.declared.cells.Cell.TheVariants as cell
use Rattle.step_table.specs.declared.cells.CellRow.{CellRow}
use Rattle.step_table.specs.declared.cells.PartKind.{PartKind}
use Rattle.step_table.specs.declared.cells.PartKind.TheVariants as part
use Rattle.step_table.specs.declared.cells.StepCells.{StepCells}
use Rattle.step_table.specs.declared.marks.Mark.{Mark}
use Rattle.step_table.specs.declared.marks.Mark.TheVariants.{Overflow}
use Rattle.step_table.specs.declared.step.Row.{Row}
use Rattle.step_table.specs.declared.windows.WindowRow.{WindowRow}
use Rattle.step_batch.specs.LentWindows.{WindowsAt}
use Rattle.promql_meaning.specs.Aggregations.{keyed_values}
use Rattle.promql_meaning.specs.Givens.{no_marks, step_of}
use Rattle.promql_meaning.specs.declared.given.Given.{Given}
use Rattle.promql_meaning.specs.declared.given.Given.TheVariants as given

-- ---- rows and windows

-- the cell of a row
abbrev pub value_cell : Row → CellRow
value_cell row = record { labels = row.labels; cell = cell.Value row.value }

-- the rows of a step as cells
abbrev pub row_cells : StepAt → StepCells
row_cells s = record { at = s.at; rows = map value_cell s.step.table.rows; marks = s.step.marks }

-- the cell of a window
abbrev pub window_cell : WindowRow → CellRow
window_cell w = record { labels = w.labels; cell = cell.Window w.times w.values }

-- the windows of an instant as cells
abbrev pub window_cells : WindowsAt → StepCells
window_cells w = record { at = w.at; rows = map window_cell w.rows; marks = w.marks }

-- ---- groups

-- whether an aggregation is one that engines are asked for
abbrev pub is_partial : Aggregate → Bool
is_partial Sum = true
is_partial Avg = true
is_partial Min = true
is_partial Max = true
is_partial Count = true
is_partial Group = true
is_partial _ = false

-- the sum of values before it is finished; there is none where it overflows
abbrev pub sum_cell : List XFrac → Option Cell
sum_cell values = if fits (totals values) then Some (cell.Sum (totals values)) else None

-- the cell of the values of a group
abbrev pub partial_cell : Aggregate → List XFrac → Option Cell
partial_cell Sum values = sum_cell values
partial_cell Avg values = sum_cell values
partial_cell Min values = Some (cell.Value (least values))
partial_cell Max values = Some (cell.Value (greatest values))
partial_cell Count values = Some (cell.Count (length values))
partial_cell Group values = Some (cell.Count (length values))
partial_cell _ values = None

-- the same under the group's labels
abbrev pub group_cell : Aggregate → Names × List XFrac → Option CellRow
group_cell f group = option_map (λ (c : Cell). record { labels = group.0; cell = c }) (partial_cell f group.1)

-- the mark of a group that has no cell
abbrev pub lost_mark : Aggregate → Names × List XFrac → Option Mark
lost_mark f group = if is_some (partial_cell f group.1) then None else Some Overflow

-- the cells of an aggregation's groups; a group whose sum overflows has none, and the mark Overflow
abbrev pub partial_cells : Aggregate → Grouping → StepAt → StepCells
partial_cells f by s =
    record {
      at = s.at;
      rows = filter_map (group_cell f) (gathered (keyed_values by s.step.table.rows));
      marks = with_fatal s.step.marks (filter_map (lost_mark f) (gathered (keyed_values by s.step.table.rows)));
    }

-- ---- any part

-- what an expression gives at an instant as a step, and as windows: what gives none has no rows and no marks
abbrev pub step_at : Ms → Given → StepAt
step_at at g = record { at = at; step = step_of g }

abbrev pub windows_at : Ms → Given → WindowsAt
windows_at at (given.Windows windows) = record { at = at; rows = windows.rows; marks = windows.marks }
windows_at at g = record { at = at; rows = []; marks = no_marks }

-- what an engine owes at an instant of what its expression gives there over the samples that it holds
abbrev pub cells : PartKind → Ms → Given → StepCells
cells part.Rows at g = row_cells (step_at at g)
cells part.Windows at g = window_cells (windows_at at g)
cells (part.Partial f by) at g = partial_cells f by (step_at at g)
