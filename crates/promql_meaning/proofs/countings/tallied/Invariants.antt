use Rattle.std.proofs.Common.{◌≡◌, ◌++◌, map}
use Rattle.promql_meaning.specs.Countings.{count_row}
use Rattle.promql_meaning.proofs.countings.tallied.Given as goal

abbrev pub invariant-loop-labels : goal.invariant-loop-labels
invariant-loop-labels l = l.rows ++ map count_row l.labels-iterator ≡ map count_row l.initial.labels-iterator
