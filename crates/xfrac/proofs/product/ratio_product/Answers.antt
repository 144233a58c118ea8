use Rattle.std.proofs.Common.{◌<◌, ◌*◌, sym, ap, ◌∙◌, arith, inl, inr, Some, ◌≡◌, None}
use Rattle.xfrac.specs.Fractions.{limit}
use Rattle.xfrac.specs.declared.value.XFrac.TheVariants.{Fin}
use Rattle.xfrac.proofs.Products.{product_outside, product_within, product_reduced}
use Rattle.xfrac.proofs.product.ratio_product.Goals as goal

pub returns-in_err-p : goal.returns-in_err-p
returns-in_err-p c =
    let above : limit < c.reduce-left.result.0 * c.reduce-right.result.0 = omega (arith, c.in_err-p.ensures) in
    let gone : c.from_residual.result ≡ None = grind arith in
    gone ∙ sym (product_outside _ _ _ _ _ _ c.requires.left c.requires.right c.reduce-left.ensures c.reduce-right.ensures _ (inl above))

pub returns-in_err-q : goal.returns-in_err-q
returns-in_err-q c =
    let above : limit < c.reduce-right.result.1 * c.reduce-left.result.1 = omega (arith, c.in_err-q.ensures) in
    let gone : c.from_residual-in_err-q.result ≡ None = grind arith in
    gone ∙ sym (product_outside _ _ _ _ _ _ c.requires.left c.requires.right c.reduce-left.ensures c.reduce-right.ensures _ (inr above))

pub with_parts-requires : goal.with_parts-requires
with_parts-requires c =
    product_reduced _ _ _ _ _ _ c.requires.left c.requires.right c.reduce-left.ensures c.reduce-right.ensures _ _ c.in_ok-p.ensures.1 c.in_ok-q.ensures.1
    (omega (arith, c.in_ok-p.ensures.0, c.in_ok-p.ensures.1))
    (omega (arith, c.in_ok-q.ensures.0, c.in_ok-q.ensures.1))

pub returns : goal.returns
returns c =
    ap (λ z. Some (Fin z)) c.with_parts.ensures
    ∙ sym (product_within _ _ _ _ _ _ c.requires.left c.requires.right c.reduce-left.ensures c.reduce-right.ensures c.args.negative _ _ c.in_ok-p.ensures.1 c.in_ok-q.ensures.1
    (omega (arith, c.in_ok-p.ensures.0, c.in_ok-p.ensures.1))
    (omega (arith, c.in_ok-q.ensures.0, c.in_ok-q.ensures.1)))
