use Rattle.promql_lex.proofs.Units.{units_told}
use Rattle.promql_lex.proofs.laws.bad_durations_have_units.Goals as goal

pub returns : goal.returns
returns c = λ run. units_told run
