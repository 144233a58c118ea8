-- Windows at the instants of a grid.
use Rattle.std.proofs.Common.{arith}
use Rattle.std.proofs.lemmas.Int.{ints}
use Rattle.std.specs.Prelude.{ℤ, pos, ◌-ℤ◌}
use Rattle.ticks.specs.Grids.{IsInRange, IsOnGrid}
use Rattle.ticks.specs.Walks.{HasTimes}

-- the instants of a grid are so small that a window of 10 milliseconds lies within the times
pub has_times : (start end step : ℤ) → IsInRange start end step → (t : ℤ) → IsOnGrid start end step t → HasTimes (t -ℤ pos 0) (pos 10)
has_times start end step r t i =
    let first = r.first in
    let last = r.last in
    let from = i.from_start in
    let to = i.to_end in
    record { ends = record { low = omega (arith, ints); high = omega (arith, ints) }; begins = record { low = omega (arith, ints); high = omega (arith, ints) } }
