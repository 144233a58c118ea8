use Rattle.std.proofs.Common.{◌≡◌, ◌++◌, map}
use Rattle.std.specs.Vec.Iter.{into_iter_items}
use Rattle.step_cells.specs.Owed.{value_cell}
use Rattle.engine_local.proofs.cells.value_cells.Given as goal

abbrev pub invariant-loop-row : goal.invariant-loop-row
invariant-loop-row l = l.cells ++ map value_cell (into_iter_items l.row-iterator) ≡ map value_cell (into_iter_items l.initial.row-iterator)
