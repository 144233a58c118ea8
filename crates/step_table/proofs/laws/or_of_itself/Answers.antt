use Rattle.step_table.proofs.Itself.{or_itself}
use Rattle.step_table.proofs.laws.or_of_itself.Goals as goal

pub returns : goal.returns
returns c = or_itself
