use Rattle.std.proofs.Common.{◌≡◌}
use Rattle.op_labels.proofs.Passing.{stayed}
use Rattle.op_labels.proofs.passing_windows.pass_all.Given as goal

abbrev pub invariant-loop-i : goal.invariant-loop-i
invariant-loop-i l = l.passed ≡ stayed l.i l.fates l.windows
