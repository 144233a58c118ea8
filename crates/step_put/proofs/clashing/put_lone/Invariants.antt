use Rattle.std.proofs.Common.{◌≡◌, ◌∷◌, ◌++◌, [], List, drop}
use Rattle.step_batch.specs.Lent.{IsFreeFrom, IsLater, entries_of, stages, step_of}
use Rattle.step_batch.specs.declared.steps.Slot.{Slot}
use Rattle.step_put.specs.Clashes.{lone_slots}
use Rattle.step_put.proofs.clashing.put_lone.Given as goal

abbrev pub invariant-loop-place : goal.invariant-loop-place
invariant-loop-place l = record {
  labels : l.buffer.labels ≡ l.fn.buffer.labels;
  free : IsFreeFrom l.place l.buffer;
  later : (u : _) → IsLater l.fn.buffer u → IsLater l.buffer u;
  lent : (done : List Slot) × (lone_slots 0 l.cells ≡ done ++ lone_slots l.place (drop l.place l.cells))
      × ((front : _) (at : _) (marks : _) → stages l.fn.buffer ≡ front ++ record { at = at; step = step_of [] marks } ∷ []
      → stages l.buffer ≡ front ++ record { at = at; step = step_of (entries_of l.fn.buffer.labels done) marks } ∷ []);
}
