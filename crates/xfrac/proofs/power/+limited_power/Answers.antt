use Rattle.std.proofs.Common.{◌≡◌, ◌≤◌, ◌*◌, ◌/◌, ◌^◌, sym, ap, ◌∙◌, subst, arith, None}
use Rattle.std.specs.Option.{SomeIff}
use Rattle.xfrac.specs.Fractions.{limit}
use Rattle.xfrac.proofs.Products.{power_above, power_odd, power_even}
use Rattle.xfrac.proofs.power.+limited_power.Goals as goal

pub returns-in_err-half : goal.returns-in_err-half
returns-in_err-half t c =
    let gone : c.from_residual.result ≡ None = grind arith in
    let out : c.args.base ^ c.args.k ≤ limit → ⊥ = λ h. c.in_err-half.ensures (power_above c.args.base c.args.k limit c.requires.positive h).0 in
    subst (λ r. SomeIff r (c.args.base ^ c.args.k ≤ limit) (c.args.base ^ c.args.k)) (sym gone) out

pub returns-in_err-square : goal.returns-in_err-square
returns-in_err-square t c =
    let gone : c.from_residual-in_err-square.result ≡ None = grind arith in
    let half : c.in_ok-half.half ≡ c.args.base ^ (c.args.k / 2) = c.in_ok-half.ensures.1 in
    let out : c.args.base ^ c.args.k ≤ limit → ⊥ = λ h. c.in_err-square.ensures (subst (λ z. z * z ≤ limit) (sym half) (power_above c.args.base c.args.k limit c.requires.positive h).1) in
    subst (λ r. SomeIff r (c.args.base ^ c.args.k ≤ limit) (c.args.base ^ c.args.k)) (sym gone) out

pub returns-then-k-eq1 : goal.returns-then-k-eq1
returns-then-k-eq1 t c =
    let half : c.in_ok-half.half ≡ c.args.base ^ (c.args.k / 2) = c.in_ok-half.ensures.1 in
    let e : c.in_ok-square.square * c.args.base ≡ c.args.base ^ c.args.k =
    ap (λ z. z * c.args.base) (c.in_ok-square.ensures.1 ∙ ap (λ z. z * z) half) ∙ sym (power_odd c.args.base c.args.k c.if-k-eq1.true) in
    subst (λ z. SomeIff c.limited_product-then-k-eq1.result (z ≤ limit) z) e c.limited_product-then-k-eq1.ensures

pub returns-else-k-eq1 : goal.returns-else-k-eq1
returns-else-k-eq1 t c =
    let half : c.in_ok-half.half ≡ c.args.base ^ (c.args.k / 2) = c.in_ok-half.ensures.1 in
    let e : c.in_ok-square.square ≡ c.args.base ^ c.args.k =
    c.in_ok-square.ensures.1 ∙ ap (λ z. z * z) half ∙ sym (power_even c.args.base c.args.k c.if-k-eq1.false) in
    (omega (arith, c.in_ok-square.ensures.0, c.in_ok-square.ensures.1), e)
