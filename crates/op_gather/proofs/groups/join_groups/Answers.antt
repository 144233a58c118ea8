use Rattle.std.proofs.Common.{◌≡◌, ◌∙◌, ◌<◌, ◌^◌, ℕ, List, ap, map, subst, sym}
use Rattle.std.proofs.lemmas.Result.{IfOk-weaker}
use Rattle.std.specs.List.{AllByRecursion}
use Rattle.step_cells.specs.Joined.{all_cells, keyed_cells}
use Rattle.step_table.specs.Groups.{Names, gathered}
use Rattle.step_table.specs.WellFormed.{IsTable}
use Rattle.step_table.specs.declared.cells.Cell.{Cell}
use Rattle.step_table.specs.declared.step.Step.{Step}
use Rattle.op_gather.specs.Cells.{MayFinish}
use Rattle.op_gather.specs.Joins.{groups_joined as what_is_joined, with_sets}
use Rattle.op_gather.proofs.Grouping.{groups_may, sets_groups}
use Rattle.op_gather.proofs.Settling.{groups_joined, groups_table}
use Rattle.op_gather.proofs.Sound.{length_map}
use Rattle.op_gather.proofs.groups.join_groups.Goals as goal

pub finish_all-requires : goal.finish_all-requires
finish_all-requires c =
    let f = c.args.f in
    let steps = map with_sets c.args.steps in
    let groups : c.in_ok-groups.groups.entries ≡ gathered (keyed_cells (all_cells steps)) =
    c.in_ok-groups.ensures ∙ ap gathered (c.in_ok-cells.ensures ∙ ap keyed_cells c.in_ok-all.ensures.cells) in
    subst (AllByRecursion (λ (group : Names × List Cell). MayFinish f group.1)) (sym groups)
    (groups_may f steps (subst (λ (n : ℕ). n < 2 ^ 32) (sym (length_map with_sets c.args.steps)) c.requires.few) (sets_groups f c.args.steps c.requires.groups))

pub returns-clause-joined : goal.returns-clause-joined
returns-clause-joined c =
    IfOk-weaker c.taken.result _ (λ (step : Step). step ≡ what_is_joined c.args.f c.args.steps)
    (λ step e. e ∙ groups_joined c.args.f (map with_sets c.args.steps) c.in_ok-all.all.cells c.in_ok-cells.cells c.in_ok-groups.groups.entries c.in_ok-outcomes.outcomes c.in_ok-all.all.marks
    c.in_ok-all.ensures.cells c.in_ok-all.ensures.marks c.in_ok-cells.ensures c.in_ok-groups.ensures c.in_ok-outcomes.ensures)
    c.taken.ensures

pub returns-clause-table : goal.returns-clause-table
returns-clause-table c =
    IfOk-weaker c.taken.result _ (λ (step : Step). IsTable step.table.rows)
    (λ step e. groups_table c.steps_are_well_formed.ensures.table c.args.f c.in_ok-cells.cells c.in_ok-groups.groups.entries c.in_ok-outcomes.outcomes c.in_ok-all.all.marks step c.in_ok-groups.ensures c.in_ok-outcomes.ensures e)
    c.taken.ensures
