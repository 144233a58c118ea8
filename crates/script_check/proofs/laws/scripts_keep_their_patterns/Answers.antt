use Rattle.script_check.proofs.Kept.{script_keeps}
use Rattle.script_check.proofs.laws.scripts_keep_their_patterns.Goals as goal

pub returns : goal.returns
returns c = script_keeps
