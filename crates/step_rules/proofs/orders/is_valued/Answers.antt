use Rattle.std.proofs.Common.{subst}
use Rattle.xfrac.specs.Laws.{IsNumber}
use Rattle.step_rules.proofs.orders.is_valued.Goals as goal

pub returns : goal.returns
returns c = subst IsNumber c.value_of.ensures c.is_number.ensures
