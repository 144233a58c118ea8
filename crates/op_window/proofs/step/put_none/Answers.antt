use Rattle.std.proofs.Common.{◌∙◌, ◌++◌, ◌∷◌, [], ap}
use Rattle.step_batch.specs.Lent.{stages}
use Rattle.step_table.specs.declared.step.Step.{Step}
use Rattle.op_window.proofs.PlacesMade.{none_made}
use Rattle.op_window.proofs.step.put_none.Goals as goal

pub returns-clause-lent : goal.returns-clause-lent
returns-clause-lent c =
    c.in_ok-put.ensures.lent ∙ ap (λ (z : Step). stages c.args.rows.now.lent ++ record { at = c.args.at; step = z } ∷ []) (none_made c.args.marks.now)
