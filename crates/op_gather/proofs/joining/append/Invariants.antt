use Rattle.std.proofs.Common.{◌≡◌, ◌++◌}
use Rattle.std.specs.Vec.Iter.{into_iter_items}
use Rattle.op_gather.proofs.joining.append.Given as goal

abbrev pub invariant-loop-cell : goal.invariant-loop-cell
invariant-loop-cell l = l.cells ++ into_iter_items l.cell-iterator ≡ l.initial.cells ++ into_iter_items l.initial.cell-iterator
