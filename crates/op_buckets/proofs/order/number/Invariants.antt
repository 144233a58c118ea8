use Rattle.std.proofs.Common.{◌≡◌}
use Rattle.std.specs.List.{range_with_len}
use Rattle.op_buckets.specs.SlotOrders.{slots_in}
use Rattle.op_buckets.proofs.order.number.Given as goal

abbrev pub invariant-loop-slot : goal.invariant-loop-slot
invariant-loop-slot l = slots_in l.keys.items ≡ range_with_len 0 l.slot
