use Rattle.std.proofs.Common.{◌≤◌, drop, length}
use Rattle.script_check.specs.Lookups.{HasValues}
use Rattle.script_check.proofs.series.values_of.Given as goal

abbrev pub invariant-loop-place : goal.invariant-loop-place
invariant-loop-place l = record {
  within : l.place ≤ length l.points;
  has : HasValues l.values (drop l.place l.points);
}

abbrev pub decreases-loop-place : goal.decreases-loop-place
decreases-loop-place l = l.place
