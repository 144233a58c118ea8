use Rattle.std.proofs.Common.{◌≡◌, ◌≤◌, Some, length, slice_get}
use Rattle.op_match.proofs.kept.make_room.Given as goal

abbrev pub invariant-loop : goal.invariant-loop
invariant-loop l = record {
  room : l.counter ≤ length l.kept;
  more : (m : _) (k : _) → slice_get l.kept m ≡ Some (Some k) → slice_get l.fn.kept m ≡ Some (Some k);
}
