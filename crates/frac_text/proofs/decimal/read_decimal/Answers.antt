use Rattle.std.proofs.Common.{ap, ◌∙◌, sym, Some, None}
use Rattle.frac_text.specs.Decimals.{has_leading_zero}
use Rattle.frac_text.specs.Readings.{judged}
use Rattle.frac_text.proofs.Answered.{decimal_found}
use Rattle.frac_text.proofs.decimal.read_decimal.Goals as goal

pub returns-in-None-scaled : goal.returns-in-None-scaled
returns-in-None-scaled c =
    decimal_found c.args.grouped c.args.text.now _ _ _ _ c.significand-digits.result.now c.digit_count.result c.in-Some.exponent None (has_leading_zero c.args.grouped c.args.text.now) c.split_run.ensures.front
    c.split_run.ensures.back c.split_fraction.ensures.fraction c.split_fraction.ensures.ending (sym c.if-not-are_digits.ensures) c.significand-digits.ensures c.digit_count.ensures.value c.in-Some.ensures
    c.in-None-scaled.ensures

pub returns-then-has_leading_zero : goal.returns-then-has_leading_zero
returns-then-has_leading_zero c =
    ap (λ b. judged b (Some c.in-Some-scaled.value)) c.if-has_leading_zero.ensures
    ∙ decimal_found c.args.grouped c.args.text.now _ _ _ _ c.significand-digits.result.now c.digit_count.result c.in-Some.exponent (Some c.in-Some-scaled.value) (has_leading_zero c.args.grouped c.args.text.now)
    c.split_run.ensures.front c.split_run.ensures.back c.split_fraction.ensures.fraction c.split_fraction.ensures.ending (sym c.if-not-are_digits.ensures) c.significand-digits.ensures c.digit_count.ensures.value
    c.in-Some.ensures c.in-Some-scaled.ensures

pub returns-else-has_leading_zero : goal.returns-else-has_leading_zero
returns-else-has_leading_zero c =
    ap (λ b. judged b (Some c.in-Some-scaled.value)) c.if-has_leading_zero.ensures
    ∙ decimal_found c.args.grouped c.args.text.now _ _ _ _ c.significand-digits.result.now c.digit_count.result c.in-Some.exponent (Some c.in-Some-scaled.value) (has_leading_zero c.args.grouped c.args.text.now)
    c.split_run.ensures.front c.split_run.ensures.back c.split_fraction.ensures.fraction c.split_fraction.ensures.ending (sym c.if-not-are_digits.ensures) c.significand-digits.ensures c.digit_count.ensures.value
    c.in-Some.ensures c.in-Some-scaled.ensures
