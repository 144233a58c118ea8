use Rattle.std.proofs.Common.{◌≡◌, drop}
use Rattle.parting_laws.specs.Parted.{has_declared}
use Rattle.test_runner.proofs.placing.has_declared.Given as goal

abbrev pub invariant-loop-i : goal.invariant-loop-i
invariant-loop-i l = has_declared l.declared l.labels ≡ has_declared (drop l.i l.declared) l.labels
