use Rattle.xfrac.proofs.LawProofs.{equal_lowest, less_of_any}
use Rattle.xfrac.proofs.laws.order_of_any_size.Goals as goal

pub returns-clause-equal : goal.returns-clause-equal
returns-clause-equal c = equal_lowest

pub returns-clause-transitive : goal.returns-clause-transitive
returns-clause-transitive c = less_of_any
