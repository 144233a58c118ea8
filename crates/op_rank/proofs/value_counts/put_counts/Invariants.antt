use Rattle.std.proofs.Common.{◌≡◌, ◌+◌, ◌<◌, ◌∷◌, ◌++◌, [], ℕ, List, length, drop}
use Rattle.std.specs.Prelude.{◌^◌}
use Rattle.step_batch.specs.Lent.{IsFreeFrom, IsLater, SlotsRise, entries_of, stages, step_of}
use Rattle.step_batch.specs.declared.steps.Slot.{Slot}
use Rattle.op_rank.specs.ValueCounts.{rows_in, slots_counted}
use Rattle.op_rank.proofs.value_counts.put_counts.Given as goal

abbrev pub invariant-loop-i : goal.invariant-loop-i
invariant-loop-i l = record {
  labels : l.buffer.labels ≡ l.fn.buffer.labels;
  begun : 0 < length l.buffer.steps;
  room : (low : ℕ) × IsFreeFrom low l.buffer × SlotsRise low (length l.buffer.labels) (slots_counted l.rows (drop l.i l.counts));
  few : l.rows + rows_in (drop l.i l.counts) < 2 ^ 64;
  later : (u : _) → IsLater l.fn.buffer u → IsLater l.buffer u;
  lent : (done : List Slot) × (slots_counted 0 l.counts ≡ done ++ slots_counted l.rows (drop l.i l.counts))
      × ((front : _) (at : _) (marks : _) → stages l.fn.buffer ≡ front ++ record { at = at; step = step_of [] marks } ∷ []
      → stages l.buffer ≡ front ++ record { at = at; step = step_of (entries_of l.fn.buffer.labels done) marks } ∷ []);
}
