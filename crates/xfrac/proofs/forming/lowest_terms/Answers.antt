use Rattle.std.proofs.Common.{◌≡◌, ◌≤◌, ◌/◌, sym, ap, ◌∙◌, arith}
use Rattle.std.proofs.Math.Nat.{div-le_self}
use Rattle.xfrac.specs.Divisors.{gcd}
use Rattle.xfrac.specs.Fractions.{with_sign}
use Rattle.xfrac.specs.Formed.{lowest-with_sign, reduced_parts}
use Rattle.xfrac.proofs.forming.lowest_terms.Goals as goal

pub with_parts-requires : goal.with_parts-requires
with_parts-requires c =
    let e : c.reduce-p.result.0 ≡ c.args.m / gcd c.args.m c.args.d = ap (λ r. r.0) c.reduce-p.ensures in
    let f : c.reduce-p.result.1 ≡ c.args.d / gcd c.args.m c.args.d = ap (λ r. r.1) c.reduce-p.ensures in
    let below : c.args.m / gcd c.args.m c.args.d ≤ c.args.m = div-le_self c.args.m (gcd c.args.m c.args.d) in
    let under : c.args.d / gcd c.args.m c.args.d ≤ c.args.d = div-le_self c.args.d (gcd c.args.m c.args.d) in
    reduced_parts _ _ _ _ c.requires.positive (sym e) (sym f) (omega (arith, c.requires.numerator_within)) (omega (arith, c.requires.denominator_within))

pub returns : goal.returns
returns c =
    c.with_parts.ensures ∙ ap (λ r. (with_sign c.args.negative r.0, r.1)) c.reduce-p.ensures ∙ sym (lowest-with_sign c.args.negative c.args.m c.args.d)
