use Rattle.std.proofs.Common.{take}
use Rattle.op_rank.specs.LabelOrders.{AreListed}
use Rattle.op_rank.proofs.label_order.listed.Given as goal

abbrev pub invariant-loop-i : goal.invariant-loop-i
invariant-loop-i l = AreListed 0 (take l.i l.labels) l.all.items
