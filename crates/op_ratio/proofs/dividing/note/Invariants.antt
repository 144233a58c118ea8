use Rattle.std.proofs.Common.{◌≡◌, length}
use Rattle.op_ratio.specs.Counts.{AreNoted}
use Rattle.op_ratio.proofs.dividing.note.Given as goal

abbrev pub invariant-loop-i : goal.invariant-loop-i
invariant-loop-i l = record {
  count : length l.at ≡ length l.fn.at;
  noted : AreNoted l.i l.at l.numbers l.slots;
}
