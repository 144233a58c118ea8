use Rattle.std.proofs.Common.{◌≡◌, ◌≤◌}
use Rattle.promql_tool.specs.Workload.{group_size}
use Rattle.promql_tool.proofs.workload.group_size.Given as goal

abbrev pub invariant-loop-counter : goal.invariant-loop-counter
invariant-loop-counter l = record {
  so_far : l.size ≡ group_size l.counter l.group;
  few : l.size ≤ l.counter;
}
