use Rattle.std.proofs.Common.{◌∙◌, ◌-◌, ◌∷◌, [], List, arith, ap, sym, subst}
use Rattle.xfrac.specs.Forming.{negated}
use Rattle.xfrac.specs.declared.value.XFrac.{XFrac}
use Rattle.window_fn.specs.Aggregates.{total}
use Rattle.window_fn.specs.Points.{first_of, last_of, neighbours}
use Rattle.window_fn.specs.Totals.{IsSumOf}
use Rattle.window_fn.proofs.Adding.{few}
use Rattle.window_fn.proofs.Lost.{few_neighbours, length-lost, lost-more, lost_of}
use Rattle.window_fn.proofs.increases.counter_change.Goals as goal

-- the last value and the first one turned, before what was lost
abbrev behind_ends : List XFrac → List XFrac → List XFrac
behind_ends values lost = last_of values ∷ negated (first_of values) ∷ lost

pub with_value-sum-requires : goal.with_value-sum-requires
with_value-sum-requires c = few c.no_sum.result [] c.no_sum.ensures.values.kept (omega arith)

pub with_value-sum-requires-2 : goal.with_value-sum-requires-2
with_value-sum-requires-2 c = few c.with_value-sum.result _ (c.with_value-sum.ensures.sum [] c.no_sum.ensures.values).kept (omega arith)

pub with_loss-sum-requires : goal.with_loss-sum-requires
with_loss-sum-requires c =
    few c.loop-i.sum _ c.loop-i.invariant.kept (omega (arith, length-lost (neighbours c.args.values.now) (c.loop-i.i - 1)))

pub loop-i-preserved : goal.loop-i-preserved
loop-i-preserved c =
    let values = c.args.values.now in
    subst (λ l. IsSumOf c.with_loss-sum.result (behind_ends values l))
    (sym (lost-more values c.loop-i.i c.index-values-i.result c.index-values-i-in-loop-i.result c.loop-i.auto.i c.loop-i-test.true c.index-values-i.is c.index-values-i-in-loop-i.is))
    (c.with_loss-sum.ensures _ c.loop-i.invariant)

pub returns : goal.returns
returns c =
    let values = c.args.values.now in
    c.sum_of.ensures.values _ c.loop-i.invariant
    ∙ ap (λ ps. total (behind_ends values (lost_of ps))) (few_neighbours values c.loop-i.i c.loop-i-test.false)
