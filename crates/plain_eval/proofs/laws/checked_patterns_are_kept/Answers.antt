use Rattle.plain_eval.proofs.Keeping.{checked_patterns_are_kept_lem}
use Rattle.plain_eval.proofs.laws.checked_patterns_are_kept.Goals as goal

pub returns : goal.returns
returns c = checked_patterns_are_kept_lem
