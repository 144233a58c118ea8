use Rattle.std.proofs.Common.{◌≡◌, ◌++◌}
use Rattle.std.specs.List.{filter_map}
use Rattle.std.specs.Vec.Iter.{into_iter_items}
use Rattle.step_cells.specs.Joined.{window_under}
use Rattle.step_table.specs.Outcomes.{keyed_by}
use Rattle.step_table.specs.declared.cells.CellRow.{CellRow}
use Rattle.step_table.specs.declared.windows.WindowRow.{WindowRow}
use Rattle.op_gather.proofs.windows.windows_of.Given as goal

abbrev pub invariant-loop-row : goal.invariant-loop-row
invariant-loop-row l =
    l.windows ++ keyed_by (λ (w : WindowRow). w.labels) (filter_map (λ (row : CellRow). window_under row.labels row.cell) (into_iter_items l.row-iterator))
    ≡ keyed_by (λ (w : WindowRow). w.labels) (filter_map (λ (row : CellRow). window_under row.labels row.cell) (into_iter_items l.initial.row-iterator))
