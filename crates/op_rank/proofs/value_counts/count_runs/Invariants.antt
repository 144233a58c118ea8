use Rattle.std.proofs.Common.{◌≡◌, ◌<◌, ◌≤◌, length, take}
use Rattle.std.specs.List.{AllByRecursion}
use Rattle.step_batch.specs.Lent.{stages}
use Rattle.op_rank.specs.ValueCounts.{counts_under, has_lost, rows_in, rows_in_runs, runs_under}
use Rattle.op_rank.proofs.value_counts.count_runs.Given as goal

abbrev pub invariant-loop-run : goal.invariant-loop-run
invariant-loop-run l = record {
  steps : l.made.steps ≡ l.fn.made.steps;
  stages : stages l.made ≡ stages l.fn.made;
  counts : counts_under l.made.labels l.counts.items ≡ runs_under l.counting (take l.run-index l.runs);
  within : AllByRecursion (λ n. n.place < length l.made.labels) l.counts.items;
  few : rows_in l.counts.items ≤ rows_in_runs (take l.run-index l.runs);
  lost : l.lost ≡ has_lost l.counting (take l.run-index l.runs);
}
