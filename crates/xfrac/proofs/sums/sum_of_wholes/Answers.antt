use Rattle.std.proofs.Common.{◌<◌, ◌≤◌, ◌+◌, sym, ap, ◌∙◌, arith, Some}
use Rattle.xfrac.specs.Fractions.{limit}
use Rattle.xfrac.specs.Reduced.{whole_is_reduced}
use Rattle.xfrac.specs.declared.value.XFrac.TheVariants.{Fin}
use Rattle.xfrac.proofs.Pairs.{two_fit, two_great, two_none, two_some, whole_totals, whole_value}
use Rattle.xfrac.proofs.sums.sum_of_wholes.Goals as goal

pub returns-then-m-n-gt-LIMIT : goal.returns-then-m-n-gt-LIMIT
returns-then-m-n-gt-LIMIT c =
    let s = c.split-negative.result.0 in
    let t = c.split-other_negative.result.0 in
    let m = c.split-negative.result.1 in
    let n = c.split-other_negative.result.1 in
    let is = whole_totals c.args.x.now c.args.y.now s t m n _ _ c.split-negative.ensures.value c.split-other_negative.ensures.value c.requires.left c.requires.right in
    let out : limit < m + n = omega (arith, c.if-m-n-gt-LIMIT.true) in
    sym (two_none _ _ _ is (two_great s t 1 m n out))

pub with_parts-requires : goal.with_parts-requires
with_parts-requires c = whole_is_reduced _ c.signed_sum-below.ensures.within

pub returns : goal.returns
returns c =
    let s = c.split-negative.result.0 in
    let t = c.split-other_negative.result.0 in
    let m = c.split-negative.result.1 in
    let n = c.split-other_negative.result.1 in
    let is = whole_totals c.args.x.now c.args.y.now s t m n _ _ c.split-negative.ensures.value c.split-other_negative.ensures.value c.requires.left c.requires.right in
    let few : m + n ≤ limit = omega (arith, c.if-m-n-gt-LIMIT.false) in
    let small : 1 ≤ limit = omega arith in
    ap (λ f. Some (Fin f)) (c.with_parts.ensures ∙ whole_value s t c.signed_sum-below.result.0 m n c.signed_sum-below.result.1 c.signed_sum-below.ensures.value)
    ∙ sym (two_some _ _ _ is (two_fit s t 1 m n small few))
