use Rattle.promql_meaning.proofs.Steady.{meaning_stays}
use Rattle.promql_meaning.proofs.laws.fixed_meanings_stay.Goals as goal

pub returns : goal.returns
returns c = meaning_stays
