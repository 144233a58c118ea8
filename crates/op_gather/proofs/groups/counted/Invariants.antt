use Rattle.std.proofs.Common.{◌≡◌, ◌≤◌, ◌+◌, ◌*◌, drop}
use Rattle.step_cells.specs.Joined.{counted_in}
use Rattle.op_gather.proofs.groups.counted.Given as goal

abbrev pub invariant-loop-cell : goal.invariant-loop-cell
invariant-loop-cell l = record {
  sum : l.count + counted_in (drop l.cell-index l.cells) ≡ counted_in l.cells;
  few : l.count ≤ 18446744073709551616 * l.cell-index;
}
