use Rattle.std.proofs.Common.{◌≡◌, ◌+◌, ◌++◌, ◌∷◌, [], ◌≤◌, Some, take, drop}
use Rattle.std.specs.Prelude.{ℤ, List, ◌*◌}
use Rattle.std.specs.List.{filter_map}
use Rattle.series_marks.specs.Reads.{edge_of, probes_of}
use Rattle.step_batch.specs.Lent.{IsFreeFrom, IsLater, no_marks, stages, step_of}
use Rattle.step_table.specs.Timed.{StepAt}
use Rattle.ticks.specs.declared.moment.Ms.{Ms}
use Rattle.series_marks.specs.Picks.{BeginsAt, picks_of}
use Rattle.series_marks.specs.Reaches.{reads_of}
use Rattle.op_select.specs.Newest.{entry_shown, marks_of}
use Rattle.op_select.proofs.rows.put_rows.Given as goal

abbrev pub invariant-loop-i : goal.invariant-loop-i
invariant-loop-i g l = record {
  marks : l.marks ≡ marks_of (Some (edge_of l.reached l.edge, l.m)) l.store (take l.i l.series) ++ marks_of l.reached l.store (drop l.i l.series);
  fetched : l.work.fetched + reads_of l.reached l.store (take l.i l.series) ≤ l.fn.work.fetched + reads_of (Some (edge_of l.reached l.edge, l.m)) l.store (take l.i l.series);
  counted : (first : ℤ) → BeginsAt first l.reached l.m → l.work.fetched + picks_of first l.reached l.store (take l.i l.series) ≡ l.fn.work.fetched + picks_of first (Some (edge_of l.reached l.edge, l.m)) l.store (take l.i l.series);
  labels : l.buffer.labels ≡ l.fn.buffer.labels;
  free : IsFreeFrom l.i l.buffer;
  later : (u : Ms) → IsLater l.fn.buffer u → IsLater l.buffer u;
  lent : (front : List StepAt) (at : Ms) → stages l.fn.buffer ≡ front ++ record { at = at; step = step_of [] no_marks } ∷ [] → stages l.buffer ≡ front ++ record { at = at; step = step_of (filter_map (entry_shown l.store l.stamped (Some (edge_of l.reached l.edge, l.m)) l.edge.0) (take l.i l.series)) no_marks } ∷ [];
  probed : l.work.probed + probes_of l.reached * l.i ≤ l.fn.work.probed + 64 * l.i;
  tested : l.work.tested ≡ l.fn.work.tested;
}
