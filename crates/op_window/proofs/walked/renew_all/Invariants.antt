use Rattle.std.proofs.Common.{◌≡◌, ◌+◌, ◌++◌, ◌≤◌, Some, take, drop}
use Rattle.std.specs.Prelude.{◌*◌}
use Rattle.series_marks.specs.Reaches.{reads_of}
use Rattle.series_marks.specs.Reads.{edge_of, probes_of}
use Rattle.op_window.specs.Sliding.{all_walked}
use Rattle.op_window.proofs.walked.renew_all.Given as goal

abbrev pub invariant-loop-i : goal.invariant-loop-i
invariant-loop-i g l = record {
  walked : l.walked.items ≡ all_walked l.span.closed l.span.range.0 (Some (edge_of l.reached l.span.edge, l.span.moment)) l.store (take l.i l.series) ++ all_walked l.span.closed l.span.range.0 l.reached l.store (drop l.i l.series);
  fetched : l.work.fetched + reads_of l.reached l.store (take l.i l.series) ≤ l.fn.work.fetched + reads_of (Some (edge_of l.reached l.span.edge, l.span.moment)) l.store (take l.i l.series);
  counted : l.work.fetched + reads_of l.reached l.store (take l.i l.series) ≡ l.fn.work.fetched + reads_of (Some (edge_of l.reached l.span.edge, l.span.moment)) l.store (take l.i l.series);
  probed : l.work.probed + probes_of l.reached * l.i ≤ l.fn.work.probed + 64 * l.i;
  tested : l.work.tested ≡ l.fn.work.tested;
}
