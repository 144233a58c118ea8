use Rattle.plan_tree.proofs.Scalars.{are_sets}
use Rattle.plan_tree.proofs.laws.marks_are_sets.Goals as goal

pub returns : goal.returns
returns c =
    let e = c.marks_stay_sets.ensures in
    are_sets e.unary e.binary e.elements e.windows e.points
