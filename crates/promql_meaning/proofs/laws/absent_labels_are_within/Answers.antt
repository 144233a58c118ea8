use Rattle.promql_meaning.proofs.WithinLimits.{absent_within}
use Rattle.promql_meaning.proofs.laws.absent_labels_are_within.Goals as goal

pub returns : goal.returns
returns c = absent_within
