use Rattle.std.proofs.Common.{◌≡◌, take}
use Rattle.std.specs.List.{filter_map}
use Rattle.step_batch.specs.Tables.{in_order}
use Rattle.op_aggregate.specs.OwedCells.{named_cell}
use Rattle.op_aggregate.proofs.owed.entries_of.Given as goal

abbrev pub invariant-loop-placed : goal.invariant-loop-placed
invariant-loop-placed l = l.entries.entries ≡ in_order (filter_map (named_cell l.labels) (take l.placed-index l.cells))
