use Rattle.std.proofs.Common.{drop}
use Rattle.std.specs.Prelude.{◌^◌, neg_ℤ, pos}
use Rattle.kernel_tests.specs.Instants.{RiseFrom}
use Rattle.kernel_tests.proofs.conditions.rise.Given as goal

abbrev pub invariant-loop-t : goal.invariant-loop-t
invariant-loop-t l = RiseFrom l.last.0 (drop l.t-index l.at) → RiseFrom (neg_ℤ (pos (2 ^ 60))) l.at
