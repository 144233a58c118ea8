use Rattle.std.proofs.Common.{◌≡◌, ◌≤◌, drop, filter, length, option_map, List}
use Rattle.promql_meaning.specs.declared.answer.ResultSeries.{ResultSeries}
use Rattle.script_check.specs.Lookups.{HasSeries}
use Rattle.script_check.specs.Series.{is_lacking, least}
use Rattle.script_check.proofs.series.least_lacking.Given as goal

abbrev pub invariant-loop-place : goal.invariant-loop-place
invariant-loop-place l = record {
  within : l.place ≤ length l.series;
  least : (all : List ResultSeries) → HasSeries l.others all → option_map (λ s. s.now) l.found ≡ least (filter (is_lacking all) (drop l.place l.series));
}

abbrev pub decreases-loop-place : goal.decreases-loop-place
decreases-loop-place l = l.place
