use Rattle.tree_results.proofs.Listed.{grid_listed}
use Rattle.tree_results.proofs.laws.grids_are_listed.Goals as goal

pub returns : goal.returns
returns c = grid_listed c.instants_are_numbered.ensures
