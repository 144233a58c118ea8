use Rattle.std.proofs.Common.{◌≡◌, take}
use Rattle.std.specs.List.{filter_map}
use Rattle.op_aggregate.specs.OwedCells.{placed_cell}
use Rattle.op_aggregate.proofs.owed.cells_of.Given as goal

abbrev pub invariant-loop-place : goal.invariant-loop-place
invariant-loop-place l = l.cells ≡ filter_map (placed_cell l.groups.all.items) (take l.place-index l.place-items)
