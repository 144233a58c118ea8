use Rattle.std.proofs.Common.{◌∙◌, ℕ, length, sym, subst}
use Rattle.std.specs.List.{IsDistinct}
use Rattle.label_set.specs.LabelEquality.{labels_eq}
use Rattle.step_batch.specs.Lent.{SlotsRise, stages}
use Rattle.step_put.specs.Placed.{PlacesRise}
use Rattle.step_put.specs.Feeding.{stage_here}
use Rattle.op_labels.proofs.Remaking.{one_made, placed_rise}
use Rattle.op_labels.proofs.relabelled.put_one.Goals as goal

pub fill-requires : goal.fill-requires
fill-requires c = subst (λ (n : ℕ). SlotsRise 0 n c.slots-slots.result.now) (sym c.requires.fates) c.slots-slots.ensures.rising

pub put-requires-clause-later : goal.put-requires-clause-later
put-requires-clause-later c = c.requires.later c.at-t.result c.at-t.ensures

pub put-requires-clause-rising : goal.put-requires-clause-rising
put-requires-clause-rising c =
    let all = c.as_slice.ensures.value ∙ c.in_ok-fill.ensures in
    subst (λ (n : ℕ). PlacesRise 0 n c.as_slice.result.now) (sym c.requires.fed)
    (subst (PlacesRise 0 (length c.args.rows.now.labels)) (sym all) (placed_rise c.args.fates.now 0 (length c.args.rows.now.labels) c.slots-slots.result.now c.slots-slots.ensures.rising))

pub returns-clause-lent : goal.returns-clause-lent
returns-clause-lent c = λ kept rule s a h.
    let rows = c.args.rows.now in
    let slots = c.slots-slots.result.now in
    let marks = c.marks-marks.result.now in
    one_made c.lent_steps_are_tables.ensures.table c.lent_steps_are_tables.ensures.rows c.rows_ignore_order.ensures.outcomes kept rule rows.labels c.args.made.now.fed c.args.fates.now slots marks c.at-t.result s
    c.args.made.now.left c.as_slice.result.now (stages c.args.made.now.lent) (stages c.put.new.self.lent)
    (subst (IsDistinct labels_eq) c.labels.ensures.labels c.labels.ensures.distinct) c.slots-slots.ensures.rising a
    (stage_here rows.labels rows.steps c.args.i c.at-t.result slots marks s c.at-t.ensures c.slots-slots.ensures.slots c.marks-marks.ensures h)
    c.requires.left (c.as_slice.ensures.value ∙ c.in_ok-fill.ensures) c.in_ok-put.ensures.lent
