use Rattle.std.proofs.Common.{◌≡◌, take}
use Rattle.op_match.specs.Joins.{instants}
use Rattle.op_match.proofs.joined.are_together.Given as goal

abbrev pub invariant-loop-i : goal.invariant-loop-i
invariant-loop-i l = take l.i (instants l.left) ≡ take l.i (instants l.right)
