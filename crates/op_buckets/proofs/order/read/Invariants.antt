use Rattle.std.proofs.Common.{◌≡◌}
use Rattle.op_buckets.specs.SlotOrders.{slots_in}
use Rattle.op_buckets.proofs.order.read.Given as goal

abbrev pub invariant-loop-i : goal.invariant-loop-i
invariant-loop-i l = slots_in l.keys.items ≡ slots_in l.fn.keys.items
