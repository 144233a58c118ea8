use Rattle.promql_meaning.proofs.Reached.{needs_met}
use Rattle.promql_meaning.proofs.laws.needs_are_met.Goals as goal

pub returns : goal.returns
returns c = needs_met
