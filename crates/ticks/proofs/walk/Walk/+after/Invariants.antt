use Rattle.ticks.proofs.Walks.{HasLooked, left}
use Rattle.ticks.proofs.walk.Walk.+after.Given as goal

abbrev pub decreases-after : goal.decreases-after
decreases-after l = goal.size-after l

abbrev pub invariant-loop-instant : goal.invariant-loop-instant
invariant-loop-instant l = HasLooked l.outer l.moment l.range.0 l.step.0 l.t.0 l.instant

abbrev pub decreases-loop-instant : goal.decreases-loop-instant
decreases-loop-instant l = left l.instant
