use Rattle.std.proofs.Common.{◌≡◌, ℕ, [], length, take, Some, slice_get, true, false}
use Rattle.op_aggregate.specs.Places.{has_place}
use Rattle.op_aggregate.specs.Tallies.{group_of}
use Rattle.op_aggregate.proofs.groups.empty_at.Given as goal

abbrev pub invariant-loop-place : goal.invariant-loop-place
invariant-loop-place l = record {
  many : length l.all.items ≡ length l.fn.all.items;
  emptied : (q : ℕ) → has_place q (take l.place-index l.places) ≡ true → slice_get l.all.items q ≡ Some (group_of l.f []);
  others : (q : ℕ) → has_place q (take l.place-index l.places) ≡ false → slice_get l.all.items q ≡ slice_get l.fn.all.items q;
}
