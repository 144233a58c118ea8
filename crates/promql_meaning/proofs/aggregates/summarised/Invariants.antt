use Rattle.std.proofs.Common.{◌≡◌, ◌++◌, map}
use Rattle.promql_meaning.specs.Aggregations.{group_outcome}
use Rattle.promql_meaning.proofs.Filled.{AreFilled}
use Rattle.promql_meaning.proofs.aggregates.summarised.Given as goal

abbrev pub invariant-loop-labels : goal.invariant-loop-labels
invariant-loop-labels l = record {
  outcomes : l.outcomes ++ map (group_outcome l.f l.q) l.labels-iterator ≡ map (group_outcome l.f l.q) l.initial.labels-iterator;
  filled : AreFilled l.labels-iterator;
}
