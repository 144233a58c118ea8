use Rattle.std.proofs.Common.{◌∙◌, ◌∷◌, ◌++◌, [], List, sym, ap, subst}
use Rattle.step_batch.specs.Lent.{no_marks, stages, step_of}
use Rattle.step_table.specs.Timed.{StepAt}
use Rattle.step_table.specs.WellFormed.{IsTable}
use Rattle.step_table.specs.declared.step.Row.{Row}
use Rattle.step_put.proofs.Putting.{stages_whole}
use Rattle.step_put.proofs.put.put_step.Goals as goal

pub returns-clause-lent : goal.returns-clause-lent
returns-clause-lent c =
    stages_whole c.lent_steps_are_tables.ensures.sorted (stages c.put_rows.new.buffer) (stages c.unite.new.self) (stages c.args.buffer.now) c.args.at c.as_slice-rows.result.now c.args.step.now.marks
    (subst IsTable (sym c.as_slice-rows.ensures) c.requires.table)
    (c.in_ok-put_rows.ensures.lent (stages c.args.buffer.now) c.args.at (c.in_ok-begin.ensures.stages ∙ ap (λ (z : List StepAt). z ++ record { at = c.args.at; step = step_of [] no_marks } ∷ []) c.in_ok-places.ensures.stages))
    c.in_ok-unite.ensures.stages
    ∙ ap (λ (rs : List Row). stages c.args.buffer.now ++ record { at = c.args.at; step = record { table = record { rows = rs }; marks = c.args.step.now.marks } } ∷ []) c.as_slice-rows.ensures
