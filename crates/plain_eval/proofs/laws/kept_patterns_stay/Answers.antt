use Rattle.plain_eval.proofs.Keeping.{kept_patterns_stay_lem}
use Rattle.plain_eval.proofs.laws.kept_patterns_stay.Goals as goal

pub returns : goal.returns
returns c = kept_patterns_stay_lem
