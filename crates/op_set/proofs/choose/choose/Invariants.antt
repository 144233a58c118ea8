use Rattle.std.proofs.Common.{◌≡◌, ◌++◌, take}
use Rattle.op_set.specs.Sides.{kept_rows}
use Rattle.op_set.proofs.choose.choose.Given as goal

abbrev pub invariant-loop-slot : goal.invariant-loop-slot
invariant-loop-slot l = l.kept.items ≡ l.fn.kept.items ++ kept_rows l.chosen l.marked l.side (take l.slot-index l.slots)
