use Rattle.std.proofs.Common.{ℕ, ◌+◌, ◌<◌, length, slice_index_or}
use Rattle.step_batch.specs.declared.steps.Slot.{Slot}
use Rattle.op_set.proofs.rising.do_rise.Given as goal

abbrev pub invariant-loop-i : goal.invariant-loop-i
invariant-loop-i l = (k : ℕ) (d : Slot) → k + 1 < l.i → k + 1 < length l.slots → (slice_index_or l.slots k d).place < (slice_index_or l.slots (k + 1) d).place
