use Rattle.std.proofs.Common.{◌≡◌, ◌∷◌, ◌++◌, [], ℕ, length, take, drop}
use Rattle.step_batch.specs.Lent.{IsFreeFrom, IsLater, SlotsRise, entries_of, stages, step_of}
use Rattle.op_set.proofs.rising.put_rows.Given as goal

abbrev pub invariant-loop-slot : goal.invariant-loop-slot
invariant-loop-slot l = record {
  labels : l.made.labels ≡ l.fn.made.labels;
  room : (low : ℕ) × IsFreeFrom low l.made × SlotsRise low (length l.fn.made.labels) (drop l.slot-index l.slots);
  later : (u : _) → IsLater l.fn.made u → IsLater l.made u;
  lent : (front : _) (at : _) (marks : _) → stages l.fn.made ≡ front ++ record { at = at; step = step_of [] marks } ∷ []
      → stages l.made ≡ front ++ record { at = at; step = step_of (entries_of l.fn.made.labels (take l.slot-index l.slots)) marks } ∷ [];
}
