use Rattle.std.proofs.Common.{take, map}
use Rattle.window_fn.specs.Aggregates.{squared_distance}
use Rattle.window_fn.specs.Totals.{IsSumOfAnswers}
use Rattle.window_fn.proofs.aggregates.total_square.Given as goal

abbrev pub invariant-loop-value : goal.invariant-loop-value
invariant-loop-value l = IsSumOfAnswers l.sum (map (squared_distance l.mean) (take l.value-index l.values))
