use Rattle.op_subquery.proofs.Walking.{meant}
use Rattle.op_subquery.proofs.laws.lent_are_meant.Goals as goal

pub returns : goal.returns
returns c = λ kernel outer inner count at of on ready. meant kernel outer inner count at of on c.walks_are_listed.ensures.no_other c.multiples_are_all.ensures ready
