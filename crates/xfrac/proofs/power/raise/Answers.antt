use Rattle.std.proofs.Common.{◌<◌, ◌^◌, sym, ap, ◌∙◌, arith, inl, inr, Some, ◌≡◌, None}
use Rattle.xfrac.specs.Fractions.{limit, with_sign}
use Rattle.xfrac.specs.declared.value.XFrac.TheVariants.{Fin}
use Rattle.xfrac.specs.Formed.{formed_outside, formed_within}
use Rattle.xfrac.proofs.Products.{raised, raised_reduced}
use Rattle.xfrac.proofs.power.raise.Goals as goal

pub returns-in_err-p : goal.returns-in_err-p
returns-in_err-p c =
    let both = raised c.args.m c.args.d c.args.k c.requires.base.positive c.requires.base.lowest in
    let above : limit < c.args.m ^ c.args.k = omega (arith, c.in_err-p.ensures) in
    let gone : c.from_residual.result ≡ None = grind arith in
    gone ∙ sym (formed_outside _ _ _ _ _ both.0 both.1 (inl above))

pub returns-in_err-q : goal.returns-in_err-q
returns-in_err-q c =
    let both = raised c.args.m c.args.d c.args.k c.requires.base.positive c.requires.base.lowest in
    let above : limit < c.args.d ^ c.args.k = omega (arith, c.in_err-q.ensures) in
    let gone : c.from_residual-in_err-q.result ≡ None = grind arith in
    gone ∙ sym (formed_outside _ _ _ _ _ both.0 both.1 (inr above))

pub with_parts-requires : goal.with_parts-requires
with_parts-requires c =
    raised_reduced c.args.m c.args.d c.args.k _ _ c.requires.base.positive c.requires.base.lowest c.in_ok-p.ensures.1 c.in_ok-q.ensures.1
    (omega (arith, c.in_ok-p.ensures.0, c.in_ok-p.ensures.1))
    (omega (arith, c.in_ok-q.ensures.0, c.in_ok-q.ensures.1))

pub returns : goal.returns
returns c =
    let both = raised c.args.m c.args.d c.args.k c.requires.base.positive c.requires.base.lowest in
    ap (λ z. Some (Fin z)) (c.with_parts.ensures ∙ ap (λ s. (with_sign s c.in_ok-p.p, c.in_ok-q.q)) c.has_negative_power.ensures)
    ∙ sym (formed_within _ _ _ _ _ (both.0 ∙ sym c.in_ok-p.ensures.1) (both.1 ∙ sym c.in_ok-q.ensures.1)
    (omega (arith, c.in_ok-p.ensures.0, c.in_ok-p.ensures.1))
    (omega (arith, c.in_ok-q.ensures.0, c.in_ok-q.ensures.1)))
