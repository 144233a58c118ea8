use Rattle.std.proofs.Common.{◌≡◌, ◌++◌}
use Rattle.std.specs.Vec.Iter.{into_iter_items}
use Rattle.step_cells.specs.Joined.{keyed_cells}
use Rattle.op_gather.proofs.groups.by_labels.Given as goal

abbrev pub invariant-loop-row : goal.invariant-loop-row
invariant-loop-row l = l.pairs ++ keyed_cells (into_iter_items l.row-iterator) ≡ keyed_cells (into_iter_items l.initial.row-iterator)
