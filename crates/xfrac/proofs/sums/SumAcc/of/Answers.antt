use Rattle.std.proofs.Common.{◌<◌, sym, ap, ◌∙◌, refl, subst}
use Rattle.xfrac.proofs.Totalling.{totals-single, same_totals}
use Rattle.xfrac.proofs.sums.SumAcc.of.Goals as goal

pub returns-clause-alone : goal.returns-clause-alone
returns-clause-alone c =
    same_totals
    (ap (λ r. r.0) c.terms-multiple.ensures.value)
    (ap (λ r. r.1) c.terms-multiple.ensures.value)
    (ap (λ r. r.2) c.terms-multiple.ensures.value)
    c.is_positive_infinity.ensures
    c.is_negative_infinity.ensures
    c.is_nan.ensures
    refl

pub returns-clause-value : goal.returns-clause-value
returns-clause-value c =
    returns-clause-alone c ∙ sym (totals-single c.args.v.now (subst (λ r. 0 < r.0) c.terms-multiple.ensures.value c.terms-multiple.ensures.positive))
