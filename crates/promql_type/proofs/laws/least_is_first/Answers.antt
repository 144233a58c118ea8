use Rattle.promql_type.proofs.Firsts.{least_is_first_lem}
use Rattle.promql_type.proofs.laws.least_is_first.Goals as goal

pub returns : goal.returns
returns c = least_is_first_lem
