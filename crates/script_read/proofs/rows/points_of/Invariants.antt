use Rattle.std.proofs.Common.{◌≡◌, ◌≤◌, ◌+◌, false, drop}
use Rattle.ticks.specs.Moments.{moments_in, places}
use Rattle.script_read.specs.Outcomes.{in_front}
use Rattle.script_read.specs.Results.{points_from, points_of, total_places}
use Rattle.script_read.proofs.rows.points_of.Given as goal

abbrev pub invariant-loop-cell : goal.invariant-loop-cell
invariant-loop-cell l = record {
  said : in_front l.points (points_from (moments_in l.grid false) l.place (drop l.cell-index l.cells)) ≡ points_of (moments_in l.grid false) l.cells;
  within : l.place + total_places (drop l.cell-index l.cells) ≤ places (moments_in l.grid false);
}
