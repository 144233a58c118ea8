use Rattle.std.proofs.Common.{◌++◌, ◌∷◌}
use Rattle.step_table.specs.declared.cells.CellRow.{CellRow}
use Rattle.step_table.specs.declared.step.Row.{Row}
use Rattle.step_table.specs.declared.windows.WindowRow.{WindowRow}
use Rattle.step_cells.specs.CellLaws.{SharedRowsAreLeftOut, SharedWindowsAreLeftOut}
use Rattle.step_table.specs.Laws.{UnionHasMarks}
use Rattle.step_cells.specs.Joined.{all_marks, cell_row, rows_in, window_under, windows_in}
use Rattle.step_cells.proofs.LeftOut.{left_marked, left_out, two_give}
use Rattle.step_cells.proofs.laws.shared_labels_are_left_out.Goals as goal

rows_left : UnionHasMarks → SharedRowsAreLeftOut
rows_left unions steps labels several = (left_out (λ (row : Row). row.labels) (rows_in steps) labels several, left_marked (λ (row : Row). row.labels) unions (all_marks steps) (rows_in steps) labels several)

windows_left : UnionHasMarks → SharedWindowsAreLeftOut
windows_left unions at steps labels several = (left_out (λ (w : WindowRow). w.labels) (windows_in steps) labels several, left_marked (λ (w : WindowRow). w.labels) unions (all_marks steps) (windows_in steps) labels several)

pub returns-clause-rows : goal.returns-clause-rows
returns-clause-rows c = rows_left c.unions_are_sets.ensures.marks

pub returns-clause-windows : goal.returns-clause-windows
returns-clause-windows c = windows_left c.unions_are_sets.ensures.marks

pub returns-clause-rows_of_two : goal.returns-clause-rows_of_two
returns-clause-rows_of_two c front between back a b labels p q =
    rows_left c.unions_are_sets.ensures.marks (front ++ a ∷ (between ++ b ∷ back)) labels (two_give (λ (row : Row). row.labels) cell_row labels front between back a b p q)

pub returns-clause-windows_of_two : goal.returns-clause-windows_of_two
returns-clause-windows_of_two c at front between back a b labels p q =
    windows_left c.unions_are_sets.ensures.marks at (front ++ a ∷ (between ++ b ∷ back)) labels (two_give (λ (w : WindowRow). w.labels) (λ (row : CellRow). window_under row.labels row.cell) labels front between back a b p q)
