use Rattle.std.proofs.Common.{◌<◌, sym, ap, arith, subst}
use Rattle.xfrac.proofs.Multiples.{lcm_positive}
use Rattle.xfrac.proofs.sums.SumAcc.joined.Goals as goal

pub invariant_of-result : goal.invariant_of-result
invariant_of-result c =
    record {
      positive = subst (λ m. 0 < m) (sym c.in_ok-multiple.ensures.1) (lcm_positive _ _ c.self.invariant.positive c.other.invariant.positive);
      multiple_within = omega (arith, c.in_ok-multiple.ensures.0, c.in_ok-multiple.ensures.1);
      magnitude_within = c.if-above-below-le-LIMIT.true;
      few = omega (arith, c.requires, ap (λ t. t.count) c.self.view_is, ap (λ t. t.count) c.other.view_is);
    }
