use Rattle.std.proofs.Common.{◌-◌}
use Rattle.sample_store.proofs.Cursors.{IsSpanned}
use Rattle.sample_store.proofs.timeline.chunk_with.Given as goal

abbrev pub invariant-loop-low : goal.invariant-loop-low
invariant-loop-low l = IsSpanned l.chunks l.place l.low l.high

abbrev pub decreases-loop-low : goal.decreases-loop-low
decreases-loop-low l = l.high - l.low
