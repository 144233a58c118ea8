use Rattle.std.proofs.Common.{◌≡◌, drop}
use Rattle.std.specs.List.{AllByRecursion}
use Rattle.step_table.specs.declared.cells.PartKind.TheVariants.{Windows}
use Rattle.step_table.specs.declared.cells.StepCells.{StepCells}
use Rattle.remote_api.specs.Strays.{HasWindow, wrong_cell}
use Rattle.remote_api.proofs.checking.wrong_cell.Given as goal

abbrev pub invariant-loop-step : goal.invariant-loop-step
invariant-loop-step l = record {
  found : wrong_cell l.ask (drop l.step-index l.steps) ≡ wrong_cell l.ask l.steps;
  windows : l.ask.kind ≡ Windows → AllByRecursion (λ (step : StepCells). HasWindow l.ask step.at) (drop l.step-index l.steps);
}
