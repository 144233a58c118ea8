use Rattle.std.proofs.Common.{◌≡◌, ◌≤◌, drop, filter, length, List}
use Rattle.promql_meaning.specs.declared.answer.Point.{Point}
use Rattle.script_check.specs.Lookups.{HasValues}
use Rattle.script_check.specs.Series.{is_apart, soonest, times}
use Rattle.script_check.proofs.series.first_apart_of.Given as goal

abbrev pub invariant-loop-place : goal.invariant-loop-place
invariant-loop-place l = record {
  within : l.place ≤ length l.points;
  first : (left right : List Point) → HasValues l.wanted left → HasValues l.got right → l.found ≡ soonest (filter (is_apart left right) (times (drop l.place l.points)));
}

abbrev pub decreases-loop-place : goal.decreases-loop-place
decreases-loop-place l = l.place
