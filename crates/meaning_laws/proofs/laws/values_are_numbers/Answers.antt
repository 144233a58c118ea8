use Rattle.meaning_laws.proofs.Valued.{meaning_gives, meaning_has, within_is}
use Rattle.meaning_laws.proofs.laws.values_are_numbers.Goals as goal

pub returns-clause-given : goal.returns-clause-given
returns-clause-given c =
    meaning_gives c.arithmetic_gives_numbers.ensures.formed c.sums_are_numbers.ensures.denominator c.small_terms_are_formed.ensures.fraction c.rounding_gives_numbers.ensures.negated c.sums_are_numbers.ensures.sum
    c.small_terms_are_formed.ensures.number c.windows_give_numbers_or_wholes.ensures.aggregates c.windows_give_numbers_or_wholes.ensures.windows

pub returns-clause-step : goal.returns-clause-step
returns-clause-step c =
    meaning_has c.arithmetic_gives_numbers.ensures.formed c.sums_are_numbers.ensures.denominator c.small_terms_are_formed.ensures.fraction c.rounding_gives_numbers.ensures.negated c.sums_are_numbers.ensures.sum
    c.small_terms_are_formed.ensures.number c.windows_give_numbers_or_wholes.ensures.aggregates c.windows_give_numbers_or_wholes.ensures.windows

pub returns-clause-within : goal.returns-clause-within
returns-clause-within c = within_is c.small_terms_are_formed.ensures.number
