use Rattle.std.proofs.Common.{◌<◌}
use Rattle.opt_selects.proofs.keyed.sum_of_squares.Given as goal

abbrev pub invariant-loop-i : goal.invariant-loop-i
invariant-loop-i l = l.sum < 36028797018963968
