use Rattle.xfrac.proofs.Numbers.{common_positive, mean_is_number, number_has_denominator, sum_is_number}
use Rattle.xfrac.proofs.laws.sums_are_numbers.Goals as goal

pub returns-clause-sum : goal.returns-clause-sum
returns-clause-sum c = sum_is_number

pub returns-clause-mean : goal.returns-clause-mean
returns-clause-mean c = mean_is_number

pub returns-clause-denominator : goal.returns-clause-denominator
returns-clause-denominator c = number_has_denominator

pub returns-clause-common : goal.returns-clause-common
returns-clause-common c = common_positive
