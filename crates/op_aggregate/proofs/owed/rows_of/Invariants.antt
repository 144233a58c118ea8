use Rattle.std.proofs.Common.{◌≡◌, ◌++◌, map}
use Rattle.op_aggregate.specs.OwedCells.{row_under}
use Rattle.op_aggregate.proofs.owed.rows_of.Given as goal

abbrev pub invariant-loop-labels : goal.invariant-loop-labels
invariant-loop-labels l = l.rows ++ map row_under l.labels-iterator ≡ map row_under l.initial.labels-iterator
