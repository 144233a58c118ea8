use Rattle.std.proofs.Common.{◌≡◌, ◌∙◌, List, ap, length, sym, true}
use Rattle.std.specs.Prelude.{◌==◌}
use Rattle.step_table.specs.declared.cells.StepCells.{StepCells}
use Rattle.remote_api.proofs.Tested.{all_have, none_given}
use Rattle.remote_api.proofs.frame.Frame.check.Goals as goal

pub returns-then-is_empty-clause-stray : goal.returns-then-is_empty-clause-stray
returns-then-is_empty-clause-stray c all k listed e =
    let none : (length c.args.self.now.steps == 0) ≡ true = ap (λ (steps : List StepCells). length steps == 0) (sym c.as_slice-steps.ensures) ∙ sym c.is_empty.ensures ∙ c.if-is_empty.true in
    none_given c.args.ask.now all k c.args.self.now.steps c.args.next none e

pub wrong_cell-requires : goal.wrong_cell-requires
wrong_cell-requires c windows = all_have c.args.ask.now c.as_slice-steps.result.now (c.requires.times.windows windows) c.in-Ok.ensures.steps
