use Rattle.std.proofs.Common.{◌≡◌, ◌++◌}
use Rattle.std.specs.List.{flat_map}
use Rattle.promql_tool.specs.Workload.{group_line, counters}
use Rattle.promql_tool.proofs.workload.append_group_lines.Given as goal

abbrev pub invariant-loop-group : goal.invariant-loop-group
invariant-loop-group l = l.into.items ≡ l.fn.into.items ++ flat_map (group_line l.series) (counters l.group)
