use Rattle.std.proofs.Common.{◌≡◌, length}
use Rattle.step_table.specs.Groups.{Names}
use Rattle.result_rows.specs.Taken.{AreFront, names_of, points_under}
use Rattle.result_rows.proofs.series.make_room.Given as goal

abbrev pub invariant-loop-place : goal.invariant-loop-place
invariant-loop-place l = record {
  count : length l.series.items ≡ l.place;
  front : AreFront (names_of l.series.items) l.labels;
  points : (names : Names) → points_under names l.series.items ≡ points_under names l.fn.series.items;
}
