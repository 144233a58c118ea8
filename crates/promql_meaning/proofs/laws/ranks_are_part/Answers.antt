use Rattle.promql_meaning.proofs.Parts.{ranks_part}
use Rattle.promql_meaning.proofs.laws.ranks_are_part.Goals as goal

pub returns : goal.returns
returns c = ranks_part
