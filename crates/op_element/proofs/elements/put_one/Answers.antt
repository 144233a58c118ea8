use Rattle.std.proofs.Common.{◌∙◌, List, length, sym, subst}
use Rattle.std.specs.List.{IsDistinct}
use Rattle.label_set.specs.LabelEquality.{labels_eq}
use Rattle.step_batch.specs.Lent.{stages}
use Rattle.step_put.specs.Placed.{PlacesRise}
use Rattle.step_table.specs.Groups.{Names}
use Rattle.op_element.proofs.Applying.{one_made, placed_rise}
use Rattle.step_put.specs.Feeding.{few_here, stage_here, step_here}
use Rattle.op_element.proofs.elements.put_one.Goals as goal

pub put-requires-clause-later : goal.put-requires-clause-later
put-requires-clause-later c = c.requires.later c.at-t.result c.at-t.ensures

pub put-requires-clause-rising : goal.put-requires-clause-rising
put-requires-clause-rising c =
    let labels = c.args.rows.now.labels in
    let all = c.as_slice.ensures.value ∙ c.in_ok-fill.ensures in
    subst (λ (ls : List Names). PlacesRise 0 (length ls) c.as_slice.result.now) (sym c.requires.fed)
    (subst (PlacesRise 0 (length labels)) (sym all) (placed_rise c.args.rule c.scalars-scalars.result 0 (length labels) c.slots-values.result.now c.slots-values.ensures.rising))

pub returns-clause-lent : goal.returns-clause-lent
returns-clause-lent c = λ f g s hf hg hs.
    let rows = c.args.rows.now in
    let first = c.args.first.now in
    let second = c.args.second.now in
    let i = c.args.i in
    one_made c.lent_steps_are_tables.ensures.rows c.rows_ignore_order.ensures.outcomes c.args.rule first.labels second.labels rows.labels
    c.slots-ones.result.now c.slots-others.result.now c.slots-values.result.now c.marks.result.now c.marks-2.result.now c.marks-3.result.now c.at-t.result f g s
    c.args.made.now.left c.args.made.now.fed c.in_ok-marks.marks c.as_slice.result.now c.scalars-scalars.result (stages c.args.made.now.lent) (stages c.put.new.self.lent)
    (subst (IsDistinct labels_eq) c.labels.ensures.labels c.labels.ensures.distinct) c.slots-values.ensures.rising
    c.slots-ones.ensures.rising (λ h. few_here first.steps i c.slots-ones.result.now (c.requires.first_scalar h) c.slots-ones.ensures.slots)
    c.slots-others.ensures.rising (λ h. few_here second.steps i c.slots-others.result.now (c.requires.second_scalar h) c.slots-others.ensures.slots)
    (step_here first.labels first.steps i c.slots-ones.result.now c.marks.result.now f c.slots-ones.ensures.slots c.marks.ensures hf)
    (step_here second.labels second.steps i c.slots-others.result.now c.marks-2.result.now g c.slots-others.ensures.slots c.marks-2.ensures hg)
    (stage_here rows.labels rows.steps i c.at-t.result c.slots-values.result.now c.marks-3.result.now s c.at-t.ensures c.slots-values.ensures.slots c.marks-3.ensures hs)
    c.requires.left c.requires.fed c.in_ok-marks.ensures c.scalars-scalars.ensures (c.as_slice.ensures.value ∙ c.in_ok-fill.ensures) c.in_ok-put.ensures.lent
