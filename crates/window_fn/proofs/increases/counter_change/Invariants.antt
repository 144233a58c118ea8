use Rattle.std.proofs.Common.{take, ◌∷◌, map, filter, ◌-◌}
use Rattle.xfrac.specs.Forming.{negated}
use Rattle.xfrac.specs.Order.{compares}
use Rattle.xfrac.specs.declared.value.CompareOp.TheVariants.{Lt}
use Rattle.window_fn.specs.Points.{first_of, last_of, neighbours}
use Rattle.window_fn.specs.Totals.{IsSumOf}
use Rattle.window_fn.proofs.increases.counter_change.Given as goal

abbrev pub invariant-loop-i : goal.invariant-loop-i
invariant-loop-i l =
    IsSumOf l.sum (last_of l.values ∷ negated (first_of l.values) ∷ map (λ p. p.0) (filter (λ p. compares Lt p.1 p.0) (take (l.i - 1) (neighbours l.values))))
