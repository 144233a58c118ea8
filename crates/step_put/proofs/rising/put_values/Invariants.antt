use Rattle.std.proofs.Common.{◌≡◌, ◌<◌, ◌∷◌, ◌++◌, [], ℕ, length, take, drop}
use Rattle.step_batch.specs.Lent.{IsFreeFrom, IsLater, SlotsRise, entries_of, stages, step_of}
use Rattle.step_put.specs.Placed.{marks_made, marks_of_faults, slots_made}
use Rattle.step_table.specs.Orders.{mark_cmp}
use Rattle.step_table.specs.Unions.{set_of}
use Rattle.step_put.proofs.rising.put_values.Given as goal

abbrev pub invariant-loop-row : goal.invariant-loop-row
invariant-loop-row l = record {
  labels : l.buffer.labels ≡ l.fn.buffer.labels;
  begun : 0 < length l.buffer.steps;
  room : (low : ℕ) × IsFreeFrom low l.buffer × SlotsRise low (length l.buffer.labels) (slots_made l.places (drop l.row-index l.placed));
  later : (u : _) → IsLater l.fn.buffer u → IsLater l.buffer u;
  faults : marks_of_faults l.faults ≡ set_of mark_cmp (marks_made (take l.row-index l.placed));
  lent : (front : _) (at : _) (marks : _) → stages l.fn.buffer ≡ front ++ record { at = at; step = step_of [] marks } ∷ []
      → stages l.buffer ≡ front ++ record { at = at; step = step_of (entries_of l.fn.buffer.labels (slots_made l.places (take l.row-index l.placed))) marks } ∷ [];
}
