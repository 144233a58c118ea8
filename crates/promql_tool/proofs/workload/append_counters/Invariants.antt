use Rattle.std.proofs.Common.{◌≡◌, ◌++◌}
use Rattle.std.specs.List.{flat_map}
use Rattle.promql_tool.specs.Workload.{counter_line, counters}
use Rattle.promql_tool.proofs.workload.append_counters.Given as goal

abbrev pub invariant-loop-counter : goal.invariant-loop-counter
invariant-loop-counter l = l.into.items ≡ l.fn.into.items ++ flat_map counter_line (counters l.counter)
