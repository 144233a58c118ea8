use Rattle.std.proofs.Common.{◌≤◌}
use Rattle.script_check.proofs.rounds.heapify.Given as goal

abbrev pub invariant-loop-at : goal.invariant-loop-at
invariant-loop-at l = l.at ≤ 65536

abbrev pub decreases-loop-at : goal.decreases-loop-at
decreases-loop-at l = l.at
