use Rattle.xfrac.proofs.Adding.{any_stands}
use Rattle.xfrac.proofs.LawProofs.{any_part_overflows, any_sum_permutation, any_totals_grow}
use Rattle.xfrac.proofs.laws.sums_of_any_size.Goals as goal

pub returns-clause-order : goal.returns-clause-order
returns-clause-order c = any_sum_permutation

pub returns-clause-alone : goal.returns-clause-alone
returns-clause-alone c = any_stands

pub returns-clause-totals : goal.returns-clause-totals
returns-clause-totals c = any_totals_grow

pub returns-clause-overflow : goal.returns-clause-overflow
returns-clause-overflow c = any_part_overflows
