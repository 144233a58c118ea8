use Rattle.std.proofs.Common.{◌∙◌}
use Rattle.xfrac.proofs.Pairs.{reduced_terms, lowest_over}
use Rattle.xfrac.proofs.sums.reduced_by.Goals as goal

pub with_parts-requires : goal.with_parts-requires
with_parts-requires c =
    reduced_terms c.args.m c.args.d c.shared_divisor-divisor.result c.quotient.result c.quotient-2.result c.requires.positive (c.requires.shared _ c.shared_divisor-divisor.ensures.value) c.quotient.ensures c.quotient-2.ensures
    c.requires.numerator_within c.requires.denominator_within

pub returns : goal.returns
returns c =
    c.with_parts.ensures ∙ lowest_over c.args.negative c.args.m c.args.d c.shared_divisor-divisor.result c.quotient.result c.quotient-2.result c.requires.positive (c.requires.shared _ c.shared_divisor-divisor.ensures.value)
    c.quotient.ensures c.quotient-2.ensures
