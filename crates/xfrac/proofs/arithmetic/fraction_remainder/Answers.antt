use Rattle.std.proofs.Common.{◌<◌, sym, ap, ◌∙◌, subst, arith, Some}
use Prim.Native.Nat.{◌∣◌}
use Rattle.xfrac.specs.Fractions.{lowest, with_sign}
use Rattle.xfrac.specs.declared.value.XFrac.TheVariants.{Fin}
use Rattle.xfrac.proofs.Multiples.{lcm_positive, dvd-lcm_right}
use Rattle.xfrac.proofs.Products.{remainder_is, quotient_positive, not_zero}
use Rattle.xfrac.proofs.arithmetic.fraction_remainder.Goals as goal
use Rattle.xfrac.specs.Gcds.{product_positive}

pub rest-requires : goal.rest-requires
rest-requires c =
    let some : 0 < c.in_ok-multiple.multiple = subst (λ z. 0 < z) (sym c.in_ok-multiple.ensures.1) (lcm_positive _ _ c.split-negative.ensures.reduced.positive c.split-n.ensures.reduced.positive) in
    let goes : c.split-n.result.2 ∣ c.in_ok-multiple.multiple = subst (λ z. c.split-n.result.2 ∣ z) (sym c.in_ok-multiple.ensures.1) (dvd-lcm_right c.split-negative.result.2 c.split-n.result.2) in
    let n : 0 < c.split-n.result.1 = not_zero c.args.b.now c.split-n.result.0 c.split-n.result.1 c.split-n.result.2 c.requires c.split-n.ensures.value in
    let q : 0 < c.quotient-2.result = subst (λ z. 0 < z) (sym c.quotient-2.ensures) (quotient_positive c.split-n.result.2 c.in_ok-multiple.multiple some goes) in
    subst (λ z. 0 < z) (sym c.in_ok-right.ensures.1) (product_positive _ _ n q)

pub lowest_terms-requires-clause-positive : goal.lowest_terms-requires-clause-positive
lowest_terms-requires-clause-positive c =
    subst (λ z. 0 < z) (sym c.in_ok-multiple.ensures.1) (lcm_positive _ _ c.split-negative.ensures.reduced.positive c.split-n.ensures.reduced.positive)

pub returns : goal.returns
returns c =
    ap (λ z. Some (Fin z)) (c.lowest_terms.ensures ∙ ap (λ z. lowest (with_sign c.split-negative.result.0 z) c.in_ok-multiple.multiple) c.rest.ensures)
    ∙ sym (remainder_is c.args.a.now c.args.b.now c.split-negative.result.0 c.split-n.result.0 _ _ _ _ c.in_ok-multiple.multiple c.quotient.result c.quotient-2.result c.in_ok-left.left c.in_ok-right.right
    c.split-negative.ensures.value c.split-n.ensures.value c.in_ok-multiple.ensures.1
    (omega (arith, c.in_ok-multiple.ensures.0, c.in_ok-multiple.ensures.1))
    c.quotient.ensures c.quotient-2.ensures c.in_ok-left.ensures.1 c.in_ok-right.ensures.1
    (omega (arith, c.in_ok-left.ensures.0, c.in_ok-left.ensures.1))
    (omega (arith, c.in_ok-right.ensures.0, c.in_ok-right.ensures.1)))
