use Rattle.std.proofs.Common.{◌≡◌, ◌+◌, take}
use Rattle.step_batch.specs.Lent.{count_of_slots}
use Rattle.step_batch.proofs.steps.has_fewer_slots.Given as goal

abbrev pub invariant-loop-step : goal.invariant-loop-step
invariant-loop-step l = count_of_slots (take l.step-index l.steps) + l.left ≡ l.most
