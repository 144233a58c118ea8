use Rattle.std.proofs.Common.{◌≡◌, ◌++◌}
use Rattle.std.specs.List.{filter_map}
use Rattle.promql_meaning.specs.Subqueries.{group_window}
use Rattle.step_rules.proofs.points.windows_of.Given as goal

abbrev pub invariant-loop-labels : goal.invariant-loop-labels
invariant-loop-labels l = l.windows ++ filter_map group_window l.labels-iterator ≡ filter_map group_window l.initial.labels-iterator
