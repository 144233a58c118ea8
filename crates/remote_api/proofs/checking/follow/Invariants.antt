use Rattle.std.proofs.Common.{◌≡◌, ◌+◌, ℕ, List, drop, take, slice_get}
use Rattle.std.specs.Prelude.{IfSome}
use Rattle.std.specs.List.{AllByRecursion}
use Rattle.step_table.specs.declared.cells.StepCells.{StepCells}
use Rattle.ticks.specs.Listed.{IsListed}
use Rattle.ticks.specs.Walks.{IsInstant}
use Rattle.ticks.specs.declared.moment.Ms.{Ms}
use Rattle.remote_api.specs.Strays.{out_of_step}
use Rattle.remote_api.proofs.checking.follow.Given as goal

abbrev pub invariant-loop-step : goal.invariant-loop-step
invariant-loop-step l = record {
  instant : IfSome l.to_come (λ t. IsInstant l.walk t.0);
  steps : AllByRecursion (λ (step : StepCells). IsInstant l.walk step.at.0) (take l.step-index l.steps);
  exact : (all : List Ms) (k : ℕ) → IsListed l.walk all → l.fn.next ≡ slice_get all k
      → (l.to_come ≡ slice_get all (k + l.step-index)) × (out_of_step (drop (k + l.step-index) all) (drop l.step-index l.steps) ≡ out_of_step (drop k all) l.steps);
}
