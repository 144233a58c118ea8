use Rattle.value_fn.proofs.Numbers.{element_number}
use Rattle.value_fn.proofs.laws.elements_are_numbers.Goals as goal

pub returns : goal.returns
returns c =
    element_number c.arithmetic_gives_numbers.ensures.numbers c.arithmetic_gives_numbers.ensures.formed c.sums_are_numbers.ensures.denominator
    c.rounding_gives_numbers.ensures.negated c.rounding_gives_numbers.ensures.magnitude c.rounding_gives_numbers.ensures.floor c.rounding_gives_numbers.ensures.ceiling c.parts_are_within.ensures
