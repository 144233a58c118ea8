use Rattle.std.proofs.Common.{◌≡◌, length, take}
use Rattle.op_match.specs.Noted.{IsNoted}
use Rattle.op_match.proofs.index.note_all.Given as goal

abbrev pub invariant-loop-i : goal.invariant-loop-i
invariant-loop-i l = record {
  len : length l.at.items ≡ length l.fn.at.items;
  noted : IsNoted l.at.items (take l.i l.keys);
}
