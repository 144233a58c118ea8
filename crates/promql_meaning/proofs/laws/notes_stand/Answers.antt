use Rattle.promql_meaning.proofs.FirstStop.{notes_stand}
use Rattle.promql_meaning.proofs.laws.notes_stand.Goals as goal

pub returns : goal.returns
returns c = notes_stand c.unions_are_sets.ensures.notes
