use Rattle.std.proofs.Common.{◌≤◌, length}
use Rattle.op_match.proofs.index.grow.Given as goal

abbrev pub invariant-loop : goal.invariant-loop
invariant-loop l = l.counter ≤ length l.at.items
