use Rattle.std.proofs.Common.{◌≡◌, ◌+◌, ◌*◌, ◌≤◌, arith, sym, Some, None, subst}
use Rattle.std.proofs.Math.Nat.{mul-le-mul_right}
use Rattle.frac_text.specs.Scales.{IsScaled}
use Rattle.frac_text.proofs.Lowest.{scaled}
use Rattle.frac_text.proofs.value.tenth.Goals as goal

pub returns-in_err-made : goal.returns-in_err-made
returns-in_err-made c =
    let more = mul-le-mul_right c.args.rest.d (let k : c.args.digit ≤ 9 = omega arith in k) in
    let gone : c.from_residual.result ≡ None = grind arith in
    subst (λ r. IsScaled r (c.args.digit * c.args.rest.d + c.args.rest.n) (10 * c.args.rest.d)) (sym gone)
    (scaled (c.args.digit * c.args.rest.d + c.args.rest.n) (10 * c.args.rest.d) (omega arith) (omega (arith, more)) None (sym c.in_err-made.ensures))

pub returns : goal.returns
returns c =
    let more = mul-le-mul_right c.args.rest.d (let k : c.args.digit ≤ 9 = omega arith in k) in
    subst (λ r. IsScaled r (c.args.digit * c.args.rest.d + c.args.rest.n) (10 * c.args.rest.d)) (sym c.rest_in.ensures)
    (scaled (c.args.digit * c.args.rest.d + c.args.rest.n) (10 * c.args.rest.d) (omega arith) (omega (arith, more)) (Some c.in_ok-made.field-0) (sym c.in_ok-made.ensures))
