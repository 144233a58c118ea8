use Rattle.std.proofs.Common.{◌≡◌, ◌++◌}
use Rattle.std.specs.Prelude.{map}
use Rattle.promql_meaning.specs.Results.{series_of_group}
use Rattle.result_rows.proofs.series.series_in.Given as goal

abbrev pub invariant-loop-labels : goal.invariant-loop-labels
invariant-loop-labels l = l.series ++ map series_of_group l.labels-iterator ≡ map series_of_group l.initial.labels-iterator
