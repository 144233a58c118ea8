use Rattle.std.proofs.Common.{◌∙◌, sym, ap}
use Rattle.std.specs.Ordering.{is_lt}
use Rattle.op_rank.proofs.Firsts.{before_is}
use Rattle.op_rank.proofs.best.comes_before.Goals as goal

pub returns : goal.returns
returns c = c.is_lt.ensures ∙ ap is_lt c.contender_order.ensures ∙ sym (before_is c.args.down c.args.a.now c.args.b.now c.is_number.ensures c.is_number-2.ensures)
