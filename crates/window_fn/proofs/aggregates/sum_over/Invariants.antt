use Rattle.std.proofs.Common.{take}
use Rattle.window_fn.specs.Totals.{IsSumOf}
use Rattle.window_fn.proofs.aggregates.sum_over.Given as goal

abbrev pub invariant-loop-value : goal.invariant-loop-value
invariant-loop-value l = IsSumOf l.sum (take l.value-index l.values)
