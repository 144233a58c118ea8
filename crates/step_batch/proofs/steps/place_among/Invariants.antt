use Rattle.std.proofs.Common.{◌≡◌, ◌≤◌, ℕ, length, slice_get, Some}
use Rattle.step_batch.specs.declared.steps.Slot.{Slot}
use Rattle.step_batch.proofs.steps.place_among.Given as goal

abbrev pub invariant-loop-i : goal.invariant-loop-i
invariant-loop-i l = record {
  within : l.i ≤ length l.slots;
  behind : (j : ℕ) (s : Slot) → l.i ≤ j → slice_get l.slots j ≡ Some s → l.place ≤ s.place;
}

abbrev pub decreases-loop-i : goal.decreases-loop-i
decreases-loop-i l = l.i
