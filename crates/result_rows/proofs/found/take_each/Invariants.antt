use Rattle.std.proofs.Common.{◌≡◌, ◌≤◌, ◌++◌, List, take}
use Rattle.std.specs.Prelude.{map}
use Rattle.promql_meaning.specs.Results.{most_rows}
use Rattle.step_batch.specs.Lent.{stage_of}
use Rattle.step_table.specs.Timed.{StepAt}
use Rattle.result_rows.specs.Taken.{HasTaken, kept_of, names_of}
use Rattle.result_rows.proofs.found.take_each.Given as goal

abbrev pub invariant-loop-i : goal.invariant-loop-i
invariant-loop-i l = record {
  few : l.found.rows ≤ most_rows;
  names : names_of l.found.series.items ≡ names_of l.fn.found.series.items;
  taken : (steps : List StepAt) → HasTaken (kept_of l.fn.found) steps → HasTaken (kept_of l.found) (steps ++ map (stage_of l.batch.labels) (take l.i l.batch.steps));
}
