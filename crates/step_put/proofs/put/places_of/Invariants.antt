use Rattle.std.proofs.Common.{◌≡◌, take, slice_get, Some}
use Rattle.step_batch.specs.Lent.{stages}
use Rattle.step_put.specs.Puts.{AreAt, names_in}
use Rattle.step_put.proofs.put.places_of.Given as goal

abbrev pub invariant-loop-row : goal.invariant-loop-row
invariant-loop-row l = record {
  kept : (j : _) (names : _) → slice_get l.fn.buffer.labels j ≡ Some names → slice_get l.buffer.labels j ≡ Some names;
  places : AreAt l.buffer.labels (names_in (take l.row-index l.rows)) l.places;
  steps : l.buffer.steps ≡ l.fn.buffer.steps;
  stages : stages l.buffer ≡ stages l.fn.buffer;
}
