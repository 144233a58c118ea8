use Rattle.std.proofs.Common.{◌≡◌, ◌++◌, ◌+◌}
use Rattle.std.specs.Prelude.{◌+ℤ◌}
use Rattle.std.specs.List.{AllByRecursion}
use Rattle.ticks.specs.Walks.{IsTime}
use Rattle.promql_meaning.specs.Subqueries.{as_times, instants}
use Rattle.step_rules.proofs.points.instants.Given as goal

abbrev pub invariant-loop-left : goal.invariant-loop-left
invariant-loop-left l = record {
  us : l.us ++ as_times (instants (l.u.0 +ℤ l.step.0) l.step.0 l.left) ≡ as_times (instants l.fn.first.0 l.step.0 (l.more + 1));
  times : AllByRecursion IsTime (instants (l.u.0 +ℤ l.step.0) l.step.0 l.left);
}

abbrev pub decreases-loop-left : goal.decreases-loop-left
decreases-loop-left l = l.left
