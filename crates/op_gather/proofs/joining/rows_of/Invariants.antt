use Rattle.std.proofs.Common.{◌≡◌, ◌++◌}
use Rattle.std.specs.List.{filter_map}
use Rattle.std.specs.Vec.Iter.{into_iter_items}
use Rattle.step_cells.specs.Joined.{cell_row}
use Rattle.op_gather.proofs.joining.rows_of.Given as goal

abbrev pub invariant-loop-row : goal.invariant-loop-row
invariant-loop-row l = l.rows ++ filter_map cell_row (into_iter_items l.row-iterator) ≡ filter_map cell_row (into_iter_items l.initial.row-iterator)
