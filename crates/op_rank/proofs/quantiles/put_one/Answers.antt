use Rattle.std.proofs.Common.{◌≡◌, ◌∙◌, ◌++◌, ◌∷◌, [], ℕ, sym, ap, subst}
use Rattle.std.specs.List.{IsDistinct}
use Rattle.label_set.specs.LabelEquality.{labels_eq}
use Rattle.step_batch.specs.Lent.{SlotsRise, stages}
use Rattle.step_put.specs.Placed.{made_step}
use Rattle.step_put.specs.declared.labels_left.Left.{Left}
use Rattle.step_table.specs.Unions.{united}
use Rattle.op_rank.specs.Quantiles.{AreMade, marks_noted}
use Rattle.step_put.specs.Feeding.{few_here, stage_here, step_here}
use Rattle.op_rank.proofs.QuantilesMade.{filled_rise, one_quantile}
use Rattle.op_rank.proofs.quantiles.put_one.Goals as goal

pub fill-requires : goal.fill-requires
fill-requires c = subst (λ (n : ℕ). SlotsRise 0 n c.slots-slots.result.now) (sym c.requires.count) c.slots-slots.ensures.rising

pub put-requires-clause-later : goal.put-requires-clause-later
put-requires-clause-later c = c.requires.later c.at-at.result c.at-at.ensures

pub put-requires-clause-rising : goal.put-requires-clause-rising
put-requires-clause-rising c =
    let made : AreMade c.value_asked-q.result c.args.groups.now c.slots-slots.result.now c.as_slice.result.now = subst (AreMade c.value_asked-q.result c.args.groups.now c.slots-slots.result.now) (sym c.as_slice.ensures.value) c.in_ok-fill.ensures in
    filled_rise c.value_asked-q.result c.args.made.now.fed c.args.groups.now c.slots-slots.result.now c.as_slice.result.now c.requires.distinct c.requires.within (subst (λ (n : ℕ). SlotsRise 0 n c.slots-slots.result.now) (sym c.requires.count) c.slots-slots.ensures.rising) made

pub returns-clause-lent : goal.returns-clause-lent
returns-clause-lent c = λ by p s there hp hs.
    let rows = c.args.rows.now in
    let arg = c.args.arg.now in
    let i = c.args.i in
    let slots = c.slots-slots.result.now in
    let q = c.value_asked-q.result in
    let made : AreMade q c.args.groups.now slots c.as_slice.result.now = subst (AreMade q c.args.groups.now slots) (sym c.as_slice.ensures.value) c.in_ok-fill.ensures in
    one_quantile c.lent_steps_are_tables.ensures.rows c.rows_ignore_order.ensures.outcomes c.steps_are_well_formed.ensures.table c.order_doesnt_matter.ensures by rows.labels arg.labels c.args.made.now.fed c.args.groups.now
    slots c.slots-parameter.result.now c.marks.result.now c.marks-2.result.now c.at-at.result p s q c.in_ok-marks.marks c.as_slice.result.now (stages c.args.made.now.lent) (stages c.put.new.self.lent)
    there (subst (IsDistinct labels_eq) c.labels.ensures.labels c.labels.ensures.distinct) c.requires.distinct c.slots-slots.ensures.rising c.slots-parameter.ensures.rising
    (few_here arg.steps i c.slots-parameter.result.now c.requires.scalar c.slots-parameter.ensures.slots)
    (step_here arg.labels arg.steps i c.slots-parameter.result.now c.marks-2.result.now p c.slots-parameter.ensures.slots c.marks-2.ensures hp)
    (stage_here rows.labels rows.steps i c.at-at.result slots c.marks.result.now s c.at-at.ensures c.slots-slots.ensures.slots c.marks.ensures hs)
    c.value_asked-q.ensures (c.in_ok-marks.ensures ∙ ap (marks_noted q slots) (c.in_ok-unite.ensures.ok ∙ (λ j. united (c.in_ok-both.ensures j) c.marks-2.result.now))) made
    (subst (λ (left : Left). stages c.put.new.self.lent ≡ stages c.args.made.now.lent ++ record { at = c.at-at.result; step = made_step left c.args.made.now.fed c.in_ok-marks.marks c.as_slice.result.now } ∷ []) c.requires.left c.in_ok-put.ensures.lent)
