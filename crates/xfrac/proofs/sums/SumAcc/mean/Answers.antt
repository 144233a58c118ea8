use Rattle.std.proofs.Common.{◌≡◌, sym, ap, ◌∙◌, arith, length}
use Rattle.std.specs.Prelude.{pos}
use Rattle.std.specs.Option.{ok_or, option_and_then}
use Rattle.xfrac.specs.Arithmetic.{quotient, whole_number}
use Rattle.xfrac.specs.Sums.{totals}
use Rattle.xfrac.specs.declared.value.XFrac.TheVariants.{Fin}
use Rattle.xfrac.specs.Reduced.{whole_is_reduced}
use Rattle.xfrac.proofs.sums.SumAcc.mean.Goals as goal

pub with_parts-requires : goal.with_parts-requires
with_parts-requires c = whole_is_reduced _ (omega (arith, c.self.invariant.few))

pub returns-clause-mean : goal.returns-clause-mean
unfolding totals
returns-clause-mean c = λ xs e.
    let count : c.self.inside.count ≡ length xs = ap (λ t. t.count) (c.self.view_is ∙ e) in
    c.ok_or.ensures.value
    ∙ ap (λ q. ok_or q (record {}))
    (c.divide.ensures
    ∙ ap (λ f. quotient c.value.result (Fin f)) c.with_parts.ensures
    ∙ ap (λ n. quotient c.value.result (Fin (pos n, 1))) count
    ∙ ap (λ s. option_and_then (λ v. quotient v (whole_number (length xs))) s) (sym (c.value.ensures.sum xs e)))
