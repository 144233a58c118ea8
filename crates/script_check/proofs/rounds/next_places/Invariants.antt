use Rattle.std.proofs.Common.{◌≤◌}
use Rattle.script_check.proofs.rounds.next_places.Given as goal

abbrev pub invariant-loop-place : goal.invariant-loop-place
invariant-loop-place l = l.many ≤ 65536
