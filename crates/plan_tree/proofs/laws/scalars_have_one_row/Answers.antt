use Rattle.plan_tree.proofs.Scalars.{one_row}
use Rattle.plan_tree.proofs.laws.scalars_have_one_row.Goals as goal

pub returns : goal.returns
returns c =
    let e = c.scalars_stay.ensures in
    one_row e.unary e.binary e.made
