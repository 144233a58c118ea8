use Rattle.std.proofs.Common.{◌<◌, length}
use Rattle.opt_selects.proofs.candidates.least_used.Given as goal

abbrev pub invariant-loop-i : goal.invariant-loop-i
invariant-loop-i l = l.best < length l.keys
