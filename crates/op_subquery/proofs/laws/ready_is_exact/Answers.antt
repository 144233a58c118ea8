use Rattle.op_subquery.proofs.Walking.{exact}
use Rattle.op_subquery.proofs.laws.ready_is_exact.Goals as goal

pub returns : goal.returns
returns c = λ kernel outer inner count at of on. exact kernel outer inner count at of on
