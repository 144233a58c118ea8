use Rattle.xfrac.proofs.Comparing.{equal_by_parts}
use Rattle.xfrac.proofs.order.are_equal_fractions.Goals as goal

pub returns : goal.returns
returns c = equal_by_parts _ _ _ c.is_same.ensures.left c.is_same.ensures.right c.is_same.ensures.same
