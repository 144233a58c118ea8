use Rattle.std.proofs.Common.{◌≡◌, drop}
use Rattle.step_batch.specs.Lent.{has_slot}
use Rattle.step_batch.proofs.steps.has_slot.Given as goal

abbrev pub invariant-loop-slot : goal.invariant-loop-slot
invariant-loop-slot l = has_slot l.place (drop l.slot-index l.slots) ≡ has_slot l.place l.slots
