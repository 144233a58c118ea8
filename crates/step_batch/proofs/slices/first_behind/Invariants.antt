use Rattle.std.proofs.Common.{◌≡◌, ◌≤◌, ◌-◌, List, length}
use Rattle.xfrac.specs.declared.value.XFrac.{XFrac}
use Rattle.step_batch.specs.Columns.{columns_behind, columns_from}
use Rattle.step_batch.proofs.slices.first_behind.Given as goal

abbrev pub invariant-loop-i : goal.invariant-loop-i
invariant-loop-i l = record {
  within : l.i ≤ length l.times;
  left : (values : List XFrac) → columns_behind l.edge.0 (columns_from l.i l.times values) ≡ columns_behind l.edge.0 (columns_from l.start l.times values);
}

abbrev pub decreases-loop-i : goal.decreases-loop-i
decreases-loop-i l = length l.times - l.i
