use Rattle.xfrac.proofs.LawProofs.{equal_numbers, less_numbers}
use Rattle.xfrac.proofs.laws.order_is_total.Goals as goal

pub returns-clause-equal : goal.returns-clause-equal
returns-clause-equal c = equal_numbers

pub returns-clause-transitive : goal.returns-clause-transitive
returns-clause-transitive c = less_numbers
