use Rattle.std.proofs.Common.{◌≡◌, ◌++◌, ◌∷◌, [], ℕ, length, take, drop}
use Rattle.step_batch.specs.Lent.{IsFreeFrom, IsLater, SlotsRise, entries_of, stages, step_of}
use Rattle.op_match.proofs.putting.put_values.Given as goal

abbrev pub invariant-loop-slot : goal.invariant-loop-slot
invariant-loop-slot l = record {
  labels : l.rows.labels ≡ l.fn.rows.labels;
  room : (low : ℕ) × IsFreeFrom low l.rows × SlotsRise low (length l.fn.rows.labels) (drop l.slot-index l.slots);
  later : (u : _) → IsLater l.fn.rows u → IsLater l.rows u;
  lent : (front : _) (at : _) (marks : _) → stages l.fn.rows ≡ front ++ record { at = at; step = step_of [] marks } ∷ []
      → stages l.rows ≡ front ++ record { at = at; step = step_of (entries_of l.fn.rows.labels (take l.slot-index l.slots)) marks } ∷ [];
}
