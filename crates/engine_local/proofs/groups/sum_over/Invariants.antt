use Rattle.std.proofs.Common.{◌≡◌, true, take}
use Rattle.std.specs.Prelude.{IfSome}
use Rattle.window_fn.specs.Totals.{IsSumOf}
use Rattle.xfrac.specs.Sums.{fits}
use Rattle.engine_local.proofs.groups.sum_over.Given as goal

abbrev pub invariant-loop-value : goal.invariant-loop-value
invariant-loop-value l = record {
  sum : IsSumOf l.sum (take l.value-index l.values);
  within : IfSome l.sum (λ t. fits t ≡ true);
}
