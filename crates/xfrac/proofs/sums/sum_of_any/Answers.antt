use Rattle.std.proofs.Common.{◌≡◌, sym, ap, ◌∙◌, [], ◌∷◌, None, arith}
use Rattle.std.proofs.lemmas.Bool.{cond-false}
use Rattle.xfrac.specs.Sums.{totals, fits, joined}
use Rattle.xfrac.proofs.Totalling.{joined_totals, some_from_choice, none_from_choice}
use Rattle.xfrac.proofs.sums.sum_of_any.Goals as goal

pub returns : goal.returns
returns c =
    let a = c.args.a.now in
    let b = c.args.b.now in
    sym (c.value.ensures.sum (a ∷ b ∷ []) ((some_from_choice _ _ _ c.in_ok-joined.ensures.value).1 ∙ joined_totals (a ∷ []) (b ∷ []) _ _ c.of-left.ensures.value c.of-right.ensures.value c.in_ok-joined.ensures.left c.in_ok-joined.ensures.right))

pub returns-in_err-joined : goal.returns-in_err-joined
returns-in_err-joined c =
    let a = c.args.a.now in
    let b = c.args.b.now in
    let e : joined c.of-left.result c.of-right.result ≡ totals (a ∷ b ∷ []) = joined_totals (a ∷ []) (b ∷ []) _ _ c.of-left.ensures.value c.of-right.ensures.value c.in_err-joined.ensures.left c.in_err-joined.ensures.right in
    let gone : c.from_residual.result ≡ None = grind arith in
    gone ∙ sym (cond-false _ _ _ (ap fits (sym e) ∙ none_from_choice _ _ c.in_err-joined.ensures.value))
