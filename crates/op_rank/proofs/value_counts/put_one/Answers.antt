use Rattle.std.proofs.Common.{◌∙◌, ◌++◌, ◌∷◌, ◌<◌, [], List, ℕ, length, sym, ap, subst}
use Rattle.std.specs.Prelude.{◌^◌}
use Rattle.std.specs.List.{IsDistinct}
use Rattle.label_set.specs.LabelEquality.{labels_eq}
use Rattle.step_batch.specs.Lent.{LaterThanLast, Lent, SlotsRise, entries_of, stages, step_of}
use Rattle.step_batch.specs.declared.steps.PlacedStep.{PlacedStep}
use Rattle.step_table.specs.Timed.{StepAt}
use Rattle.step_table.specs.Unions.{united}
use Rattle.step_table.specs.declared.step.Step.{Step}
use Rattle.op_rank.specs.ValueCounts.{counted_at, overflow_if, rows_in, slots_counted}
use Rattle.op_rank.specs.declared.value_counts.Count.{Count}
use Rattle.step_put.specs.Feeding.{stage_here}
use Rattle.op_rank.proofs.ValuesCounted.{counts_rise, step_counted}
use Rattle.op_rank.proofs.value_counts.put_one.Goals as goal

pub take-requires-clause-slots : goal.take-requires-clause-slots
take-requires-clause-slots c = subst (λ (n : ℕ). SlotsRise 0 n c.slots-slots.result.now) (sym c.requires.count) c.slots-slots.ensures.rising

pub put_counted-requires : goal.put_counted-requires
put_counted-requires c =
    let t = c.in_ok-lost.ensures.tallied in
    let labels = c.take.new.made.labels in
    let counts = c.take.new.self.counts.items in
    record {
      later = subst (λ (z : List PlacedStep). LaterThanLast z c.at-at.result) (sym c.take.ensures.steps) (c.requires.later c.at-at.result c.at-at.ensures);
      rising = subst (λ (z : List Count). SlotsRise 0 (length labels) (slots_counted 0 z)) (sym c.as_slice.ensures.value) (counts_rise (length labels) counts t.rise t.within);
      few = subst (λ (z : List Count). rows_in z < 2 ^ 64) (sym c.as_slice.ensures.value) t.few;
    }

pub returns-clause-lent : goal.returns-clause-lent
returns-clause-lent c = λ by s g h.
    let rows = c.args.rows.now in
    let slots = c.slots-slots.result.now in
    let marks = c.marks.result.now in
    let at = c.at-at.result in
    let labels = c.take.new.made.labels in
    let counts = c.take.new.self.counts.items in
    let lost = c.in_ok-lost.lost in
    let old = stages c.args.made.now in
    let fed_distinct = subst (IsDistinct labels_eq) c.labels.ensures.labels c.labels.ensures.distinct in
    let distinct = subst (IsDistinct labels_eq) (c.labels-2.ensures.labels ∙ ap (λ (z : Lent). z.labels) c.lend.ensures) c.labels-2.ensures.distinct in
    let counted = step_counted c.lent_steps_are_tables.ensures.table c.lent_steps_are_tables.ensures.rows c.rows_ignore_order.ensures.table by rows.labels labels c.args.counting.now slots marks counts lost fed_distinct distinct c.slots-slots.ensures.rising g c.in_ok-lost.ensures.tallied in
    c.in_ok-put_counted.ensures.lent
    ∙ ap (λ (z : List StepAt). z ++ record { at = at; step = step_of (entries_of labels (slots_counted 0 c.as_slice.result.now)) (united marks (record { fatal = overflow_if lost; notes = [] })) } ∷ []) c.in_ok-lost.ensures.stages
    ∙ ap (λ (z : List Count). old ++ record { at = at; step = step_of (entries_of labels (slots_counted 0 z)) (united marks (record { fatal = overflow_if lost; notes = [] })) } ∷ []) c.as_slice.ensures.value
    ∙ ap (λ (z : Step). old ++ record { at = at; step = z } ∷ []) counted
    ∙ ap (λ (z : StepAt). old ++ counted_at by c.args.counting.now.label.now z ∷ []) (sym (stage_here rows.labels rows.steps c.args.i at slots marks s c.at-at.ensures c.slots-slots.ensures.slots c.marks.ensures h))
