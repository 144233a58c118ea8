use Rattle.std.proofs.Common.{◌+◌, ◌<◌, ◌≤◌, drop}
use Rattle.std.specs.List.{AllByRecursion}
use Rattle.op_rank.specs.ValueCounts.{rows_in_runs}
use Rattle.op_rank.proofs.Runs.{ArePending}
use Rattle.op_rank.proofs.value_counts.find_runs.Given as goal

abbrev pub invariant-loop-i : goal.invariant-loop-i
invariant-loop-i l = record {
  pending : ArePending l.runs.items l.rows (drop l.i l.entries) l.entries;
  some : AllByRecursion (λ r. 0 < r.rows) l.runs.items;
  few : rows_in_runs l.runs.items + l.rows ≤ l.i;
}
