use Rattle.std.proofs.Common.{◌≡◌, ◌+◌, ◌≤◌, drop, map, take}
use Rattle.step_batch.specs.Lent.{stages}
use Rattle.series_marks.specs.Reaches.{Follow, IsReached, reach_all, reads_of, searches_of}
use Rattle.op_window.specs.Rules.{fed_by, names_of, windowed_at, windows_of_series}
use Rattle.op_window.specs.Sliding.{walked_of}
use Rattle.op_window.proofs.Instants.{InstantsFrom}
use Rattle.op_window.proofs.rows.WindowRows.feed_store.Given as goal

abbrev pub invariant-loop-i : goal.invariant-loop-i
invariant-loop-i g l = record {
  series : l.self.series ≡ l.fn.self.series;
  f : l.self.f ≡ l.fn.self.f;
  moment : l.self.moment ≡ l.fn.self.moment;
  range : l.self.range ≡ l.fn.self.range;
  reached : reach_all l.fn.self.range.0 l.self.reached l.fn.self.moment (drop l.i l.at) ≡ reach_all l.fn.self.range.0 l.fn.self.reached l.fn.self.moment l.at;
  named : l.self.named ≡ names_of l.store l.fn.self.series;
  walked : l.self.walked ≡ walked_of l.fn.self.moment.closed l.fn.self.range.0 l.self.reached l.store l.fn.self.series;
  edge : IsReached l.fn.self.moment.closed l.fn.self.range.0 l.self.reached;
  follow : Follow l.fn.self.range.0 l.self.reached l.fn.self.moment (drop l.i l.at);
  instants : InstantsFrom l.self.buffer (drop l.i l.at);
  lent : stages l.self.buffer ≡ map (windowed_at l.fn.self.f (windows_of_series l.store l.fn.self.series l.fn.self.moment l.fn.self.range)) (take l.i (fed_by l.fn.self.f l.at (stages l.arg)));
  fetched : l.work.fetched + reads_of l.fn.self.reached l.store l.fn.self.series ≤ l.fn.work.fetched + reads_of l.self.reached l.store l.fn.self.series;
  counted : l.work.fetched + reads_of l.fn.self.reached l.store l.fn.self.series ≡ l.fn.work.fetched + reads_of l.self.reached l.store l.fn.self.series;
  probed : l.work.probed + searches_of l.fn.self.reached l.fn.self.series ≤ l.fn.work.probed + searches_of l.self.reached l.fn.self.series;
  tested : l.work.tested ≡ l.fn.work.tested;
}
