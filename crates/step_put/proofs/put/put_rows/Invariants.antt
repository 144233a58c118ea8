use Rattle.std.proofs.Common.{◌≡◌, ◌<◌, ◌∷◌, ◌++◌, [], length, map, take, drop}
use Rattle.step_batch.specs.Lent.{IsLater, entry_in, no_marks, stages, step_of}
use Rattle.step_put.proofs.Putting.{AreFree}
use Rattle.step_put.proofs.put.put_rows.Given as goal

abbrev pub invariant-loop-i : goal.invariant-loop-i
invariant-loop-i l = record {
  labels : l.buffer.labels ≡ l.fn.buffer.labels;
  begun : 0 < length l.buffer.steps;
  free : AreFree l.buffer.labels l.buffer.steps (drop l.i l.rows);
  later : (u : _) → IsLater l.fn.buffer u → IsLater l.buffer u;
  lent : (front : _) (at : _) → stages l.fn.buffer ≡ front ++ record { at = at; step = step_of [] no_marks } ∷ []
      → stages l.buffer ≡ front ++ record { at = at; step = step_of (map entry_in (take l.i l.rows)) no_marks } ∷ [];
}
