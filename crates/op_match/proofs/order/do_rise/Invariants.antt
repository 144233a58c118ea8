use Rattle.std.proofs.Common.{◌≡◌, drop, None}
use Rattle.step_put.specs.Placed.{do_rise}
use Rattle.op_match.proofs.order.do_rise.Given as goal

abbrev pub invariant-loop-slot : goal.invariant-loop-slot
invariant-loop-slot l = do_rise None l.slots ≡ do_rise l.last (drop l.slot-index l.slots)
