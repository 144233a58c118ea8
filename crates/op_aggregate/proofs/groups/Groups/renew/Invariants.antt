use Rattle.std.proofs.Common.{◌≡◌, ◌<◌, ℕ, [], length, Some, slice_get}
use Rattle.op_aggregate.specs.Tallies.{group_of}
use Rattle.op_aggregate.proofs.groups.Groups.renew.Given as goal

abbrev pub invariant-loop-place : goal.invariant-loop-place
invariant-loop-place l = record {
  f : l.self.f ≡ l.fn.self.f;
  many : length l.self.all.items ≡ l._place;
  filled : l.self.filled.items ≡ [];
  kept : (q : ℕ) → q < length l.self.all.items → slice_get l.self.all.items q ≡ Some (group_of l.fn.self.f []);
}
