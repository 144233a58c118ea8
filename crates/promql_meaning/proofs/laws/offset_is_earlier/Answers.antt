use Rattle.promql_meaning.proofs.Moments.{offset_earlier}
use Rattle.promql_meaning.proofs.laws.offset_is_earlier.Goals as goal

pub returns : goal.returns
returns c = offset_earlier
