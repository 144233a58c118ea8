use Rattle.promql_meaning.proofs.FirstStop.{first_is_first, none_is_none}
use Rattle.promql_meaning.proofs.laws.first_stop_is_first.Goals as goal

pub returns : goal.returns
returns c = record { first = first_is_first; none = none_is_none }
