use Rattle.std.proofs.Common.{◌≡◌, ◌+◌, ◌*◌, ◌^◌, ap, ◌∙◌, sym, arith, length, true, false}
use Rattle.std.specs.Prelude.{pos}
use Rattle.xfrac.specs.Forming.{formed}
use Rattle.frac_text.specs.Digits.{digits_in, number}
use Rattle.frac_text.specs.Decimals.{scaled}
use Rattle.frac_text.proofs.Caps.{number_below, scaled_capped}
use Rattle.frac_text.proofs.Answered.{digits_few}
use Rattle.frac_text.proofs.decimal.scaled.Goals as goal

pub returns-then-exponent : goal.returns-then-exponent
returns-then-exponent c = λ size is.
    let few = digits_few c.args.digits.now in
    let same : number (digits_in c.args.digits.now) * 10 ^ 0 ≡ number (digits_in c.args.digits.now) = omega arith in
    c.value_of.ensures ∙ ap (λ n. formed (pos n) (10 ^ (c.args.places + c.args.exponent.size))) same
    ∙ scaled_capped (number (digits_in c.args.digits.now)) (length (digits_in c.args.digits.now)) c.args.places true size c.args.exponent.size (number_below c.args.digits.now) (omega (arith, few)) (omega arith) is
    ∙ ap (λ b. scaled (number (digits_in c.args.digits.now)) c.args.places b size) (sym c.if-exponent.true)

pub returns-else-exponent : goal.returns-else-exponent
returns-else-exponent c = λ size is.
    let few = digits_few c.args.digits.now in
    c.value_of-else-exponent.ensures
    ∙ scaled_capped (number (digits_in c.args.digits.now)) (length (digits_in c.args.digits.now)) c.args.places false size c.args.exponent.size (number_below c.args.digits.now) (omega (arith, few)) (omega arith) is
    ∙ ap (λ b. scaled (number (digits_in c.args.digits.now)) c.args.places b size) (sym c.if-exponent.false)
