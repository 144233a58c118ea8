use Rattle.std.proofs.Common.{◌≤◌, drop, length}
use Rattle.script_check.specs.Lookups.{HasSeries}
use Rattle.script_check.proofs.series.by_labels.Given as goal

abbrev pub invariant-loop-place : goal.invariant-loop-place
invariant-loop-place l = record {
  within : l.place ≤ length l.all;
  has : HasSeries l.map (drop l.place l.all);
}

abbrev pub decreases-loop-place : goal.decreases-loop-place
decreases-loop-place l = l.place
