use Rattle.std.proofs.Common.{◌≡◌, ◌+◌, ◌++◌, ◌≤◌, drop, map}
use Rattle.std.specs.Prelude.{ℤ}
use Rattle.step_batch.specs.Lent.{stages}
use Rattle.promql_meaning.specs.Selecting.{lookback}
use Rattle.series_marks.specs.Picks.{BeginsWith, picks_of}
use Rattle.series_marks.specs.Reaches.{Follow, IsReached, reach_all, reads_of, searches_of}
use Rattle.op_select.specs.Newest.{InstantsFrom, marks_of, names_of, selected}
use Rattle.op_select.proofs.select.Select.feed.Given as goal

abbrev pub invariant-loop-t : goal.invariant-loop-t
invariant-loop-t g l = record {
  series : l.self.series ≡ l.fn.self.series;
  moment : l.self.moment ≡ l.fn.self.moment;
  stamped : l.self.stamped ≡ l.fn.self.stamped;
  reached : reach_all lookback l.self.reached l.fn.self.moment (drop l.t-index l.at) ≡ reach_all lookback l.fn.self.reached l.fn.self.moment l.at;
  marks : l.self.marks ≡ marks_of l.self.reached l.store l.fn.self.series;
  labels : l.self.buffer.labels ≡ names_of l.store l.fn.self.series;
  edge : IsReached l.fn.self.moment.closed lookback l.self.reached;
  follow : Follow lookback l.self.reached l.fn.self.moment (drop l.t-index l.at);
  instants : InstantsFrom l.self.buffer (drop l.t-index l.at);
  lent : stages l.self.buffer ++ map (selected l.store l.fn.self.series l.fn.self.moment l.fn.self.stamped) (drop l.t-index l.at) ≡ map (selected l.store l.fn.self.series l.fn.self.moment l.fn.self.stamped) l.at;
  fetched : l.work.fetched + reads_of l.fn.self.reached l.store l.fn.self.series ≤ l.fn.work.fetched + reads_of l.self.reached l.store l.fn.self.series;
  begins : (first : ℤ) → BeginsWith first l.fn.self.reached l.fn.self.moment l.at → BeginsWith first l.self.reached l.fn.self.moment (drop l.t-index l.at);
  counted : (first : ℤ) → BeginsWith first l.fn.self.reached l.fn.self.moment l.at
      → l.work.fetched + picks_of first l.fn.self.reached l.store l.fn.self.series ≡ l.fn.work.fetched + picks_of first l.self.reached l.store l.fn.self.series;
  probed : l.work.probed + searches_of l.fn.self.reached l.fn.self.series ≤ l.fn.work.probed + searches_of l.self.reached l.fn.self.series;
  tested : l.work.tested ≡ l.fn.work.tested;
}
