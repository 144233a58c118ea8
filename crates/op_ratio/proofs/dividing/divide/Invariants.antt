use Rattle.std.proofs.Common.{take}
use Rattle.op_ratio.specs.Counts.{AreQuotients}
use Rattle.op_ratio.proofs.dividing.divide.Given as goal

abbrev pub invariant-loop-slot : goal.invariant-loop-slot
invariant-loop-slot l = AreQuotients l.sum_numbers l.count_numbers l.counts (take l.slot-index l.sums) l.placed.items
