use Rattle.std.proofs.Common.{◌+◌, ◌-◌, ◌^◌, ◌∙◌, ap, min, arith, get_or}
use Rattle.ticks.specs.Pairs.{IsCapped-digit, digit-at}
use Rattle.ticks.proofs.read.number_of.Goals as goal

pub overflow_sub-digit : goal.overflow_sub-digit
overflow_sub-digit c =
    let range = digit-at c.args.digits.now c.loop-digit.digit-index c.requires c.loop-digit-test.true in
    omega (arith, range.0)

pub loop-digit-preserved : goal.loop-digit-preserved
loop-digit-preserved c =
    IsCapped-digit c.args.digits.now c.loop-digit.digit-index c.loop-digit.n _ c.requires c.loop-digit-test.true c.loop-digit.invariant
    (c.saturating_add-n.ensures ∙ ap (λ k. min (c.saturating_mul.result + k) (2 ^ 64 - 1)) c.from.ensures
    ∙ ap (λ k. min (k + (get_or c.args.digits.now c.loop-digit.digit-index 0 - 48)) (2 ^ 64 - 1)) c.saturating_mul.ensures)
