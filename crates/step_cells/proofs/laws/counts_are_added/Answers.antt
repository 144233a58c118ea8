use Rattle.step_cells.proofs.Itself.{counts_added}
use Rattle.step_cells.proofs.laws.counts_are_added.Goals as goal

pub returns : goal.returns
returns c = counts_added
