use Rattle.promql_meaning.proofs.Moments.{fixed_stays}
use Rattle.promql_meaning.proofs.laws.fixed_selector_stays.Goals as goal

pub returns : goal.returns
returns c = fixed_stays
