use Rattle.std.proofs.Common.{◌≡◌, ◌+◌, ◌-◌, ◌*◌, arith, sym, ap, ◌∙◌, length, None}
use Rattle.std.specs.Prelude.{pos}
use Rattle.xfrac.specs.Forming.{formed}
use Rattle.frac_text.specs.Digits.{digits_in, number}
use Rattle.frac_text.proofs.Values.{parts_length, text_parted, whole_outside, rest_outside, lower_outside, joined_value}
use Rattle.frac_text.proofs.value.lowered_by_parts.Goals as goal

pub returns-in_err-whole : goal.returns-in_err-whole
returns-in_err-whole c =
    let is = text_parted (digits_in c.args.text.now) (digits_in c.split_digits.result.0.now) (digits_in c.split_digits.result.1.now) c.saturating_sub-wholes.result c.args.places c.split_digits.ensures.front
    c.split_digits.ensures.back (omega arith) in
    let gone : c.from_residual.result ≡ None = grind arith in
    gone ∙ sym (whole_outside (digits_in c.args.text.now) (digits_in c.split_digits.result.0.now) (digits_in c.split_digits.result.1.now) c.args.places is (omega (arith, c.in_err-whole.ensures)))

pub returns-in_err-rest : goal.returns-in_err-rest
returns-in_err-rest c =
    let is = text_parted (digits_in c.args.text.now) (digits_in c.split_digits.result.0.now) (digits_in c.split_digits.result.1.now) c.saturating_sub-wholes.result c.args.places c.split_digits.ensures.front
    c.split_digits.ensures.back (omega arith) in
    let gone : c.from_residual-in_err-rest.result ≡ None = grind arith in
    gone ∙ sym (rest_outside (digits_in c.args.text.now) (digits_in c.split_digits.result.0.now) (digits_in c.split_digits.result.1.now) c.args.places is c.in_err-rest.ensures)

pub returns-in_err-lower : goal.returns-in_err-lower
returns-in_err-lower c =
    let is = text_parted (digits_in c.args.text.now) (digits_in c.split_digits.result.0.now) (digits_in c.split_digits.result.1.now) c.saturating_sub-wholes.result c.args.places c.split_digits.ensures.front
    c.split_digits.ensures.back (omega arith) in
    let long : length (digits_in c.split_digits.result.1.now) + c.saturating_sub-wholes.result ≡ length (digits_in c.args.text.now) =
    ap (λ y. length y + c.saturating_sub-wholes.result) c.split_digits.ensures.back ∙ parts_length (digits_in c.args.text.now) c.saturating_sub-wholes.result (omega arith) in
    let gone : c.from_residual-in_err-lower.result ≡ None = grind arith in
    gone ∙ sym (lower_outside (digits_in c.args.text.now) (digits_in c.split_digits.result.0.now) (digits_in c.split_digits.result.1.now) c.args.places (c.args.places - (c.digit_count-count.result - c.saturating_sub-wholes.result)) c.in_ok-rest.rest is
    (omega (arith, long)) c.in_ok-rest.ensures c.in_err-lower.ensures)

pub returns : goal.returns
returns c =
    let is = text_parted (digits_in c.args.text.now) (digits_in c.split_digits.result.0.now) (digits_in c.split_digits.result.1.now) c.saturating_sub-wholes.result c.args.places c.split_digits.ensures.front
    c.split_digits.ensures.back (omega arith) in
    let long : length (digits_in c.split_digits.result.1.now) + c.saturating_sub-wholes.result ≡ length (digits_in c.args.text.now) =
    ap (λ y. length y + c.saturating_sub-wholes.result) c.split_digits.ensures.back ∙ parts_length (digits_in c.args.text.now) c.saturating_sub-wholes.result (omega arith) in
    let whole : c.joined.result ≡ formed (pos (number (digits_in c.split_digits.result.0.now) * c.in_ok-lower.lower.d + c.in_ok-lower.lower.n)) c.in_ok-lower.lower.d =
    c.joined.ensures ∙ ap (λ w. formed (pos (w * c.in_ok-lower.lower.d + c.in_ok-lower.lower.n)) c.in_ok-lower.lower.d) c.in_ok-whole.ensures.1 in
    whole ∙ joined_value (digits_in c.args.text.now) (digits_in c.split_digits.result.0.now) (digits_in c.split_digits.result.1.now) c.args.places
    (c.args.places - (c.digit_count-count.result - c.saturating_sub-wholes.result)) c.in_ok-rest.rest c.in_ok-lower.lower is (omega (arith, long)) c.in_ok-rest.ensures c.in_ok-lower.ensures
