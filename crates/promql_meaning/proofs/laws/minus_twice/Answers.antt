use Rattle.promql_meaning.proofs.Twice.{twice}
use Rattle.promql_meaning.proofs.laws.minus_twice.Goals as goal

pub returns : goal.returns
returns c = twice
