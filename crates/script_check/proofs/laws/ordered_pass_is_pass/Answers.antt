use Rattle.script_check.proofs.Holding.{unordered}
use Rattle.script_check.proofs.laws.ordered_pass_is_pass.Goals as goal

pub returns : goal.returns
returns c = unordered
