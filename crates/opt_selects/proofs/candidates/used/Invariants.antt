use Rattle.std.proofs.Common.{◌≤◌}
use Rattle.opt_selects.proofs.candidates.used.Given as goal

abbrev pub invariant-loop-one : goal.invariant-loop-one
invariant-loop-one l = l.used ≤ l.one-index
