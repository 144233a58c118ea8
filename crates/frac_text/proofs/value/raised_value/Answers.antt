use Rattle.std.proofs.Common.{◌<◌, ◌*◌, ◌^◌, arith, sym, subst, ◌≡◌, None, ◌∙◌}
use Rattle.xfrac.specs.Fractions.{limit}
use Rattle.frac_text.specs.Digits.{digits_in, number}
use Rattle.frac_text.proofs.Values.{whole_beyond, raised_beyond}
use Rattle.frac_text.proofs.value.raised_value.Goals as goal

pub returns-in_err-n : goal.returns-in_err-n
returns-in_err-n c =
    let gone : c.from_residual.result ≡ None = grind arith in
    gone ∙ sym (whole_beyond (number (digits_in c.args.text.now)) c.args.places (omega (arith, c.in_err-n.ensures)))

pub returns-in_err-raised : goal.returns-in_err-raised
returns-in_err-raised c =
    let out : limit < c.in_ok-n.n * 10 ^ c.args.places = omega (arith, c.in_err-raised.ensures) in
    let gone : c.from_residual-in_err-raised.result ≡ None = grind arith in
    gone ∙ sym (raised_beyond (number (digits_in c.args.text.now) * 10 ^ c.args.places) (subst (λ n. limit < n * 10 ^ c.args.places) c.in_ok-n.ensures.1 out))
