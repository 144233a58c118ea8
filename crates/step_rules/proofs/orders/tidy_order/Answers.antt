use Rattle.std.proofs.Common.{◌∙◌}
use Rattle.step_rules.proofs.Sorting.{tidy_is}
use Rattle.step_rules.proofs.orders.tidy_order.Goals as goal

pub returns : goal.returns
returns c = c.value_order.ensures ∙ tidy_is c.args.down c.args.a.now c.args.b.now c.is_number.ensures c.is_number-2.ensures
