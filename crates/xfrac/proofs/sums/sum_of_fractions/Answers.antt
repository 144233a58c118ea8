use Rattle.std.proofs.Common.{◌<◌, ◌≤◌, ◌+◌, ◌*◌, sym, subst, ap, ◌∙◌, arith, Some, ◌≡◌, None}
use Rattle.std.specs.Int.{IsGcd}
use Rattle.xfrac.specs.Fractions.{limit}
use Rattle.xfrac.specs.declared.value.XFrac.TheVariants.{Fin}
use Rattle.xfrac.proofs.Pairs.{two_totals, two_fit, two_wide, two_great, two_none, two_some, shared_only, scaled_positive, value_over, IsSum}
use Rattle.xfrac.proofs.sums.sum_of_fractions.Goals as goal

pub returns-in_err-multiple : goal.returns-in_err-multiple
returns-in_err-multiple c =
    let is = two_totals c.args.x.now c.args.y.now _ _ _ _ _ _ _ c.quotient-k.result c.quotient-l.result c.split-negative.ensures.value c.split-other_negative.ensures.value c.split-negative.ensures.reduced.positive c.split-other_negative.ensures.reduced.positive
    c.shared_divisor-shared.ensures.value c.quotient-k.ensures c.quotient-l.ensures in
    let out : limit < c.split-negative.result.2 * c.quotient-k.result = omega (arith, c.in_err-multiple.ensures) in
    let gone : c.from_residual.result ≡ None = grind arith in
    gone ∙ sym (two_none _ _ _ is (two_wide c.split-negative.result.0 c.split-other_negative.result.0 (c.split-negative.result.2 * c.quotient-k.result) (c.split-negative.result.1 * c.quotient-k.result) (c.split-other_negative.result.1 * c.quotient-l.result) out))

pub returns-in_err-left : goal.returns-in_err-left
returns-in_err-left c =
    let is = two_totals c.args.x.now c.args.y.now _ _ _ _ _ _ _ c.quotient-k.result c.quotient-l.result c.split-negative.ensures.value c.split-other_negative.ensures.value c.split-negative.ensures.reduced.positive c.split-other_negative.ensures.reduced.positive
    c.shared_divisor-shared.ensures.value c.quotient-k.ensures c.quotient-l.ensures in
    let out : limit < c.split-negative.result.1 * c.quotient-k.result + c.split-other_negative.result.1 * c.quotient-l.result = omega (arith, c.in_err-left.ensures) in
    let gone : c.from_residual-in_err-left.result ≡ None = grind arith in
    gone ∙ sym (two_none _ _ _ is (two_great c.split-negative.result.0 c.split-other_negative.result.0 (c.split-negative.result.2 * c.quotient-k.result) (c.split-negative.result.1 * c.quotient-k.result) (c.split-other_negative.result.1 * c.quotient-l.result) out))

pub returns-in_err-right : goal.returns-in_err-right
returns-in_err-right c =
    let is = two_totals c.args.x.now c.args.y.now _ _ _ _ _ _ _ c.quotient-k.result c.quotient-l.result c.split-negative.ensures.value c.split-other_negative.ensures.value c.split-negative.ensures.reduced.positive c.split-other_negative.ensures.reduced.positive
    c.shared_divisor-shared.ensures.value c.quotient-k.ensures c.quotient-l.ensures in
    let out : limit < c.split-negative.result.1 * c.quotient-k.result + c.split-other_negative.result.1 * c.quotient-l.result = omega (arith, c.in_err-right.ensures) in
    let gone : c.from_residual-in_err-right.result ≡ None = grind arith in
    gone ∙ sym (two_none _ _ _ is (two_great c.split-negative.result.0 c.split-other_negative.result.0 (c.split-negative.result.2 * c.quotient-k.result) (c.split-negative.result.1 * c.quotient-k.result) (c.split-other_negative.result.1 * c.quotient-l.result) out))

pub returns-then-left-right-gt-LIMIT : goal.returns-then-left-right-gt-LIMIT
returns-then-left-right-gt-LIMIT c =
    let is = two_totals c.args.x.now c.args.y.now _ _ _ _ _ _ _ c.quotient-k.result c.quotient-l.result c.split-negative.ensures.value c.split-other_negative.ensures.value c.split-negative.ensures.reduced.positive c.split-other_negative.ensures.reduced.positive
    c.shared_divisor-shared.ensures.value c.quotient-k.ensures c.quotient-l.ensures in
    let out : limit < c.split-negative.result.1 * c.quotient-k.result + c.split-other_negative.result.1 * c.quotient-l.result = omega (arith, c.if-left-right-gt-LIMIT.true, c.in_ok-left.ensures.1, c.in_ok-right.ensures.1) in
    sym (two_none _ _ _ is (two_great c.split-negative.result.0 c.split-other_negative.result.0 (c.split-negative.result.2 * c.quotient-k.result) (c.split-negative.result.1 * c.quotient-k.result) (c.split-other_negative.result.1 * c.quotient-l.result) out))

pub reduced_by-requires-clause-positive : goal.reduced_by-requires-clause-positive
reduced_by-requires-clause-positive c =
    subst (λ z. 0 < z) (sym c.in_ok-multiple.ensures.1) (scaled_positive _ _ _ _ c.split-negative.ensures.reduced.positive c.split-other_negative.ensures.reduced.positive c.shared_divisor-shared.ensures.value c.quotient-k.ensures)

pub reduced_by-requires-clause-shared : goal.reduced_by-requires-clause-shared
reduced_by-requires-clause-shared c = λ h both.
    subst (λ z. IsGcd c.signed_sum-below.result.1 z h) (sym c.in_ok-multiple.ensures.1)
    (shared_only c.split-negative.result.1 c.split-negative.result.2 c.split-other_negative.result.1 c.split-other_negative.result.2 c.shared_divisor-shared.result c.quotient-k.result c.quotient-l.result c.signed_sum-below.result.1 c.shared_divisor-shared.ensures.positive c.split-negative.ensures.reduced.lowest c.split-other_negative.ensures.reduced.lowest
    c.shared_divisor-shared.ensures.value c.quotient-k.ensures c.quotient-l.ensures
    (subst (λ z. IsSum c.signed_sum-below.result.1 z (c.split-other_negative.result.1 * c.quotient-l.result)) c.in_ok-left.ensures.1 (subst (λ z. IsSum c.signed_sum-below.result.1 c.in_ok-left.left z) c.in_ok-right.ensures.1 c.signed_sum-below.ensures.parts))
    h both)

pub returns : goal.returns
returns c =
    let is = two_totals c.args.x.now c.args.y.now _ _ _ _ _ _ _ c.quotient-k.result c.quotient-l.result c.split-negative.ensures.value c.split-other_negative.ensures.value c.split-negative.ensures.reduced.positive c.split-other_negative.ensures.reduced.positive
    c.shared_divisor-shared.ensures.value c.quotient-k.ensures c.quotient-l.ensures in
    let small : c.split-negative.result.2 * c.quotient-k.result ≤ limit = omega (arith, c.in_ok-multiple.ensures.0, c.in_ok-multiple.ensures.1) in
    let few : c.split-negative.result.1 * c.quotient-k.result + c.split-other_negative.result.1 * c.quotient-l.result ≤ limit = omega (arith, c.if-left-right-gt-LIMIT.false, c.in_ok-left.ensures.1, c.in_ok-right.ensures.1) in
    ap (λ f. Some (Fin f)) (c.reduced_by.ensures ∙ value_over c.split-negative.result.0 c.split-other_negative.result.0 c.signed_sum-below.result.0 c.in_ok-left.left c.in_ok-right.right c.in_ok-multiple.multiple (c.split-negative.result.2 * c.quotient-k.result) (c.split-negative.result.1 * c.quotient-k.result) (c.split-other_negative.result.1 * c.quotient-l.result) c.signed_sum-below.result.1 c.signed_sum-below.ensures.value c.in_ok-multiple.ensures.1 c.in_ok-left.ensures.1 c.in_ok-right.ensures.1)
    ∙ sym (two_some _ _ _ is (two_fit c.split-negative.result.0 c.split-other_negative.result.0 (c.split-negative.result.2 * c.quotient-k.result) (c.split-negative.result.1 * c.quotient-k.result) (c.split-other_negative.result.1 * c.quotient-l.result) small few))
