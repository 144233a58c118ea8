use Rattle.std.proofs.Common.{◌≡◌, ◌+◌, drop, length}
use Rattle.op_running.specs.Kept.{AreTails}
use Rattle.op_running.proofs.running.push_tails.Given as goal

abbrev pub invariant-loop-i : goal.invariant-loop-i
invariant-loop-i g l = record {
  many : length l.tails.items + l.i ≡ length l.values;
  tail : g.S.Summary.is_of l.tail (drop l.i l.values);
  tails : AreTails g.S.Summary.is_of l.tails.items l.values;
}

abbrev pub decreases-loop-i : goal.decreases-loop-i
decreases-loop-i g l = l.i
