use Rattle.promql_meaning.proofs.Points.{points_all}
use Rattle.promql_meaning.proofs.laws.multiples_are_all.Goals as goal

pub returns : goal.returns
returns c = points_all
