use Rattle.std.proofs.Common.{◌≡◌, ◌≤◌, ◌*◌, ◌/◌, arith, sym, subst, ap, ◌∙◌, inl, inr}
use Rattle.std.specs.Option.{SomeIff}
use Rattle.xfrac.specs.Divisors.{lcm, gcd}
use Rattle.xfrac.specs.Fractions.{limit}
use Rattle.xfrac.proofs.Multiples.{lcm_cases}
use Rattle.xfrac.proofs.divisors.limited_multiple.Goals as goal

pub returns-then-b-eq1 : goal.returns-then-b-eq1
returns-then-b-eq1 c =
    let cases = lcm_cases _ _ c.requires.left c.requires.right in
    let e : lcm c.args.a c.args.b ≡ c.args.a = elim c.if-b-eq1.either [ inl same ↦ cases.0 same | inr other ↦ cases.1 other.1 ] in
    (omega (arith, c.requires.left_within), sym e)

pub returns-then-a-eq1 : goal.returns-then-a-eq1
returns-then-a-eq1 c =
    let e : lcm c.args.a c.args.b ≡ c.args.b = (lcm_cases _ _ c.requires.left c.requires.right).2 c.if-a-eq1.true in
    (omega (arith, c.requires.right_within), sym e)

pub returns-else-a-eq1 : goal.returns-else-a-eq1
unfolding lcm
returns-else-a-eq1 c =
    let e : c.quotient.result ≡ c.args.a / gcd c.args.a c.args.b = c.quotient.ensures ∙ ap (λ g. c.args.a / g) c.gcd.ensures.value in
    subst (λ x. SomeIff c.limited_product.result (x * c.args.b ≤ limit) (x * c.args.b)) e c.limited_product.ensures
