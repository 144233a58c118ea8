use Rattle.xfrac.proofs.LawProofs.{lowest_has_denominator, number_is_lowest, whole_is_lowest}
use Rattle.xfrac.proofs.laws.numbers_are_lowest.Goals as goal

pub returns-clause-number : goal.returns-clause-number
returns-clause-number c = number_is_lowest

pub returns-clause-whole : goal.returns-clause-whole
returns-clause-whole c = whole_is_lowest

pub returns-clause-denominator : goal.returns-clause-denominator
returns-clause-denominator c = lowest_has_denominator
