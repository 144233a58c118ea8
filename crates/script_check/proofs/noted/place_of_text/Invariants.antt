use Rattle.std.proofs.Common.{◌≤◌, ◌-◌, length}
use Rattle.script_check.proofs.noted.place_of_text.Given as goal

abbrev pub invariant-loop-low : goal.invariant-loop-low
invariant-loop-low l = l.high ≤ length l.notes

abbrev pub decreases-loop-low : goal.decreases-loop-low
decreases-loop-low l = l.high - l.low
