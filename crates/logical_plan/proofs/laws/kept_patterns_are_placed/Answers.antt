use Rattle.logical_plan.proofs.Placements.{kept_are_placed}
use Rattle.logical_plan.proofs.laws.kept_patterns_are_placed.Goals as goal

pub returns : goal.returns
returns c = kept_are_placed c.typed_trees_fit.ensures
