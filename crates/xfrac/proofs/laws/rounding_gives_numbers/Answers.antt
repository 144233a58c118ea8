use Rattle.xfrac.proofs.Numbers.{ceiling_number, floor_number, magnitude_number, negated_number}
use Rattle.xfrac.proofs.laws.rounding_gives_numbers.Goals as goal

pub returns-clause-negated : goal.returns-clause-negated
returns-clause-negated c = negated_number

pub returns-clause-magnitude : goal.returns-clause-magnitude
returns-clause-magnitude c = magnitude_number

pub returns-clause-floor : goal.returns-clause-floor
returns-clause-floor c = floor_number

pub returns-clause-ceiling : goal.returns-clause-ceiling
returns-clause-ceiling c = ceiling_number
