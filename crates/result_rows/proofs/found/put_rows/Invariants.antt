use Rattle.std.proofs.Common.{◌≡◌, ◌++◌, List, drop}
use Rattle.step_batch.specs.Lent.{entries_of}
use Rattle.step_put.specs.Puts.{AreAt}
use Rattle.step_table.specs.Groups.{Names, items_of}
use Rattle.result_rows.specs.Taken.{names_of, points_of, points_under}
use Rattle.result_rows.proofs.found.put_rows.Given as goal

abbrev pub invariant-loop-slot : goal.invariant-loop-slot
invariant-loop-slot l = record {
  names : names_of l.series.items ≡ names_of l.fn.series.items;
  points : (fed : List Names) → AreAt (names_of l.fn.series.items) fed l.places → (names : Names)
      → points_under names l.series.items ++ items_of (points_of l.at (entries_of fed (drop l.slot-index l.slots))) names
      ≡ points_under names l.fn.series.items ++ items_of (points_of l.at (entries_of fed l.slots)) names;
}
