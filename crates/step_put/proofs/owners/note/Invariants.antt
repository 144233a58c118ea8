use Rattle.std.proofs.Common.{◌≡◌, length}
use Rattle.step_put.proofs.Owned.{AreOwned, AreShared}
use Rattle.step_put.proofs.owners.note.Given as goal

abbrev pub invariant-loop-place : goal.invariant-loop-place
invariant-loop-place l = record {
  count : length l.owners.items ≡ l.count;
  owned : AreOwned l.owners.items l.places l.place-index;
  shared : AreShared l.owners.items l.places l.place-index;
}
