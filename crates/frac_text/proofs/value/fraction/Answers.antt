use Rattle.std.proofs.Common.{◌≡◌, ◌-◌, ◌^◌, arith, get_or, sym, subst, length, true, None, Some}
use Rattle.std.specs.Char.{is_ascii_digit}
use Rattle.frac_text.specs.Digits.{digits_in, number}
use Rattle.frac_text.specs.Scales.{IsScaled}
use Rattle.frac_text.proofs.Values.{fraction_more, fraction_outside}
use Rattle.frac_text.proofs.value.fraction.Goals as goal

pub loop-place-preserved-then-is_ascii_digit : goal.loop-place-preserved-then-is_ascii_digit
loop-place-preserved-then-is_ascii_digit c =
    let digit : is_ascii_digit (get_or c.args.text.now (c.loop-place.place - 1) 0) ≡ true = sym c.if-is_ascii_digit.ensures.value in
    record {
      is = fraction_more c.args.text.now c.loop-place.place (c.loop-place.place - 1) c.from.result c.loop-place.rest (Some c.in_ok-rest.rest) (omega arith) (omega arith) digit c.from.ensures
          c.loop-place.invariant.is c.in_ok-rest.ensures;
      inside = omega arith;
    }

pub returns-in_err-rest : goal.returns-in_err-rest
returns-in_err-rest c =
    let digit : is_ascii_digit (get_or c.args.text.now (c.loop-place.place - 1) 0) ≡ true = sym c.if-is_ascii_digit.ensures.value in
    let gone : c.from_residual.result ≡ None = grind arith in
    subst (λ r. IsScaled r (number (digits_in c.args.text.now)) (10 ^ length (digits_in c.args.text.now))) (sym gone)
    (fraction_outside c.args.text.now (c.loop-place.place - 1) (fraction_more c.args.text.now c.loop-place.place (c.loop-place.place - 1) c.from.result c.loop-place.rest None (omega arith) (omega arith) digit
    c.from.ensures c.loop-place.invariant.is c.in_err-rest.ensures))
