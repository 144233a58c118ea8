use Rattle.std.proofs.Common.{◌≡◌, ◌∙◌, arith, sym, None}
use Rattle.frac_text.specs.declared.digits.Base.TheVariants.{Sixteen}
use Rattle.frac_text.specs.Digits.{number_in}
use Rattle.frac_text.proofs.Values.{raised_beyond}
use Rattle.frac_text.proofs.hexadecimal.value_of.Goals as goal

pub returns-in_err-whole_number : goal.returns-in_err-whole_number
returns-in_err-whole_number c =
    let gone : c.from_residual.result ≡ None = grind arith in
    gone ∙ sym (raised_beyond (number_in Sixteen c.args.digits.now) (omega (arith, c.in_err-whole_number.ensures)))
