use Rattle.std.proofs.Common.{◌≡◌, drop}
use Rattle.op_aggregate.specs.OwedCells.{has_lost}
use Rattle.op_aggregate.proofs.owed.has_lost.Given as goal

abbrev pub invariant-loop-place : goal.invariant-loop-place
invariant-loop-place l = has_lost l.groups.all.items (drop l.place-index l.place-items) ≡ has_lost l.groups.all.items l.place-items
