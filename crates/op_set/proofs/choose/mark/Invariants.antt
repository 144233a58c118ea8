use Rattle.std.proofs.Common.{◌≡◌, length, take}
use Rattle.op_set.specs.Sides.{AreMarked}
use Rattle.op_set.proofs.choose.mark.Given as goal

abbrev pub invariant-loop-slot : goal.invariant-loop-slot
invariant-loop-slot l = record {
  count : length l.marked ≡ length l.fn.marked;
  marked : AreMarked l.marked l.numbers (take l.slot-index l.slots);
}
