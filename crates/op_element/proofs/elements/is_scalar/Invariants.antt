use Rattle.std.proofs.Common.{◌≤◌, length, take}
use Rattle.std.specs.List.{AllByRecursion}
use Rattle.step_batch.specs.declared.steps.PlacedStep.{PlacedStep}
use Rattle.op_element.proofs.elements.is_scalar.Given as goal

abbrev pub invariant-loop-i : goal.invariant-loop-i
invariant-loop-i l = AllByRecursion (λ (s : PlacedStep). length s.slots ≤ 1) (take l.i l.batch.steps)
