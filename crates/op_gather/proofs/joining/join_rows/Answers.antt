use Rattle.std.proofs.Common.{◌≡◌, ◌∙◌, ap, map, subst, sym}
use Rattle.std.proofs.lemmas.Result.{IfOk-weaker}
use Rattle.step_table.specs.Outcomes.{settled}
use Rattle.step_table.specs.WellFormed.{AreSets, IsTable}
use Rattle.step_table.specs.declared.step.Step.{Step}
use Rattle.op_gather.specs.Joins.{rows_joined, with_sets}
use Rattle.op_gather.proofs.Settling.{in_order_joined, settled_table}
use Rattle.op_gather.proofs.joining.join_rows.Goals as goal

pub returns-clause-joined : goal.returns-clause-joined
returns-clause-joined c =
    IfOk-weaker c.settled.result _ (λ (step : Step). step ≡ rows_joined c.args.steps)
    (λ step e. e ∙ ap settled c.step_of_rows.ensures ∙ in_order_joined c.rows_ignore_order.ensures.settled (map with_sets c.args.steps) c.in_ok-all.all.cells c.in_ok-rows.rows c.in_order-sorted.result c.in_ok-all.all.marks
    c.in_ok-all.ensures.cells c.in_ok-all.ensures.marks c.in_ok-rows.ensures c.in_order-sorted.ensures)
    c.settled.ensures

pub returns-clause-table : goal.returns-clause-table
returns-clause-table c =
    IfOk-weaker c.settled.result _ (λ (step : Step). IsTable step.table.rows)
    (λ step e. settled_table c.steps_are_well_formed.ensures.settled c.step_of_rows.result step (subst (λ (s : Step). AreSets s.marks) (sym c.step_of_rows.ensures) c.in_ok-all.ensures.sets) e)
    c.settled.ensures
