use Rattle.std.proofs.Common.{◌≡◌, ◌∙◌, ◌++◌, ◌∷◌, [], ℕ, List, length, map, sym, ap, subst}
use Rattle.std.specs.Prelude.{unwrap_or}
use Rattle.std.specs.List.{IsDistinct}
use Rattle.label_set.specs.LabelEquality.{labels_eq}
use Rattle.step_batch.specs.Lent.{SlotsRise, stages}
use Rattle.step_put.specs.Placed.{PlacesRise, made_step}
use Rattle.step_put.specs.declared.labels_left.Left.{Left}
use Rattle.step_table.specs.Groups.{Names}
use Rattle.op_rank.specs.Contenders.{as_made, chosen}
use Rattle.step_put.specs.Feeding.{few_here, stage_here, step_here}
use Rattle.op_rank.proofs.FirstsMade.{chosen_rise, one_made, ranks_apart}
use Rattle.op_rank.proofs.first_rows.put_one.Goals as goal

pub choose-requires-clause-groups : goal.choose-requires-clause-groups
choose-requires-clause-groups c = subst (λ (n : ℕ). SlotsRise 0 n c.slots-slots.result.now) (sym c.requires.groups) c.slots-slots.ensures.rising

pub choose-requires-clause-ranks : goal.choose-requires-clause-ranks
choose-requires-clause-ranks c = c.requires.ranks.count ∙ sym c.requires.groups

pub choose-requires-clause-apart : goal.choose-requires-clause-apart
choose-requires-clause-apart c = ranks_apart c.args.rows.now.labels c.args.ranking.now.ranks.now (subst (IsDistinct labels_eq) c.labels.ensures.labels c.labels.ensures.distinct) c.requires.ranks

pub put-requires-clause-later : goal.put-requires-clause-later
put-requires-clause-later c = c.requires.later c.at-at.result c.at-at.ensures

pub put-requires-clause-rising : goal.put-requires-clause-rising
put-requires-clause-rising c =
    let by = c.args.ranking.now in
    let labels = c.args.rows.now.labels in
    let all = c.as_slice.ensures.value ∙ c.in_ok-choose.ensures in
    subst (λ (ls : List Names). PlacesRise 0 (length ls) c.as_slice.result.now) (sym c.requires.fed)
    (subst (PlacesRise 0 (length labels)) (sym all) (chosen_rise by.down by.groups.now by.ranks.now c.unwrap_or.result (length labels) c.slots-slots.result.now c.slots-slots.ensures.rising))

pub returns-clause-lent : goal.returns-clause-lent
returns-clause-lent c = λ by p s g hp hs.
    let rank = c.args.ranking.now in
    let rows = c.args.rows.now in
    let arg = c.args.arg.now in
    let i = c.args.i in
    let slots = c.slots-slots.result.now in
    let placed : c.as_slice.result.now ≡ map as_made (chosen rank.down rank.groups.now rank.ranks.now (unwrap_or c.count_asked-count.result 0) slots) =
    c.as_slice.ensures.value ∙ c.in_ok-choose.ensures ∙ ap (λ (k : ℕ). map as_made (chosen rank.down rank.groups.now rank.ranks.now k slots)) c.unwrap_or.ensures in
    one_made c.lent_steps_are_tables.ensures.table c.lent_steps_are_tables.ensures.rows c.rows_ignore_order.ensures.settled rank.down by rows.labels arg.labels rank.groups.now rank.ranks.now
    slots c.slots-parameter.result.now c.marks.result.now c.marks-2.result.now c.at-at.result p s
    c.args.made.now.fed c.count_asked-count.result c.in_ok-marks.marks c.as_slice.result.now (stages c.args.made.now.lent) (stages c.put.new.self.lent)
    g c.requires.ranks (subst (IsDistinct labels_eq) c.labels.ensures.labels c.labels.ensures.distinct) c.slots-slots.ensures.rising c.slots-parameter.ensures.rising
    (few_here arg.steps i c.slots-parameter.result.now c.requires.scalar c.slots-parameter.ensures.slots)
    (step_here arg.labels arg.steps i c.slots-parameter.result.now c.marks-2.result.now p c.slots-parameter.ensures.slots c.marks-2.ensures hp)
    (stage_here rows.labels rows.steps i c.at-at.result slots c.marks.result.now s c.at-at.ensures c.slots-slots.ensures.slots c.marks.ensures hs)
    c.requires.fed c.count_asked-count.ensures c.in_ok-marks.ensures placed
    (subst (λ (left : Left). stages c.put.new.self.lent ≡ stages c.args.made.now.lent ++ record { at = c.at-at.result; step = made_step left c.args.made.now.fed c.in_ok-marks.marks c.as_slice.result.now } ∷ []) c.requires.left c.in_ok-put.ensures.lent)
