use Rattle.std.proofs.Common.{◌∙◌, ◌++◌, ◌∷◌, [], ℕ, arith, List, length, sym, ap, subst}
use Rattle.std.specs.List.{IsDistinct}
use Rattle.label_set.specs.LabelEquality.{labels_eq}
use Rattle.step_batch.specs.Lent.{Lent, SlotsRise, entries_of, stages, step_of}
use Rattle.step_batch.specs.declared.steps.Slot.{Slot}
use Rattle.step_table.specs.Groups.{Names}
use Rattle.step_table.specs.Unions.{united}
use Rattle.op_set.specs.Sides.{AreBelow}
use Rattle.step_put.specs.Feeding.{stage_here, step_here}
use Rattle.op_set.proofs.Making.{AreFed, Laws, lent_count, one_made, rise_made, side_count}
use Rattle.op_set.proofs.Named.{at_below, at_length}
use Rattle.op_set.proofs.combined.put_one.Goals as goal

pub keep-requires-clause-left : goal.keep-requires-clause-left
keep-requires-clause-left c =
    let names = c.args.names.now in
    let count = side_count _ _ _ _ names.left c.requires.named.left in
    subst (λ (n : ℕ). SlotsRise 0 n c.slots-lefts.result.now) (sym (count ∙ ap length c.requires.left)) c.slots-lefts.ensures.rising

pub keep-requires-clause-right : goal.keep-requires-clause-right
keep-requires-clause-right c =
    let names = c.args.names.now in
    let count = side_count _ _ _ _ names.right c.requires.named.right in
    subst (λ (n : ℕ). SlotsRise 0 n c.slots-rights.result.now) (sym (count ∙ ap length c.requires.right)) c.slots-rights.ensures.rising

pub keep-requires-clause-left_numbers : goal.keep-requires-clause-left_numbers
keep-requires-clause-left_numbers c =
    let names = c.args.names.now in
    subst (λ (n : ℕ). AreBelow n names.left.signed.places) (sym c.requires.count) (at_below _ _ names.left.signed.places c.requires.named.left.numbers)

pub keep-requires-clause-right_numbers : goal.keep-requires-clause-right_numbers
keep-requires-clause-right_numbers c =
    let names = c.args.names.now in
    subst (λ (n : ℕ). AreBelow n names.right.signed.places) (sym c.requires.count) (at_below _ _ names.right.signed.places c.requires.named.right.numbers)

pub keep-requires-clause-left_places : goal.keep-requires-clause-left_places
keep-requires-clause-left_places c =
    let names = c.args.names.now in
    let count = side_count _ _ _ _ names.left c.requires.named.left in
    let places = at_length c.args.made.now.labels names.left.signed.fed names.left.own.places c.requires.named.left.places in
    omega (arith, count, places)

pub keep-requires-clause-right_places : goal.keep-requires-clause-right_places
keep-requires-clause-right_places c = λ e.
    let names = c.args.names.now in
    let count = side_count _ _ _ _ names.right c.requires.named.right in
    let places = lent_count names.pairing names.op _ _ names.right c.requires.named.right e in
    omega (arith, count, places)

pub put_rows-requires-clause-rising : goal.put_rows-requires-clause-rising
put_rows-requires-clause-rising c =
    let names = c.args.names.now in
    let labels = c.args.made.now.labels in
    let fed : AreFed names labels c.slots-lefts.result.now c.slots-rights.result.now = record {
      signatures = subst (IsDistinct labels_eq) (c.labels.ensures.labels ∙ ap (λ (z : Lent). z.labels) c.lend.ensures) c.labels.ensures.distinct;
      labels_apart = subst (IsDistinct labels_eq) (c.labels-2.ensures.labels ∙ ap (λ (z : Lent). z.labels) c.lend-2.ensures) c.labels-2.ensures.distinct;
      lefts = subst (IsDistinct labels_eq) (c.labels-3.ensures.labels ∙ sym c.requires.left) c.labels-3.ensures.distinct;
      rights = subst (IsDistinct labels_eq) (c.labels-4.ensures.labels ∙ sym c.requires.right) c.labels-4.ensures.distinct;
      named = c.requires.named;
      left_rise = subst (λ (z : List Names). SlotsRise 0 (length z) c.slots-lefts.result.now) (sym c.requires.left) c.slots-lefts.ensures.rising;
      right_rise = subst (λ (z : List Names). SlotsRise 0 (length z) c.slots-rights.result.now) (sym c.requires.right) c.slots-rights.ensures.rising;
    } in
    let rise = rise_made names labels c.slots-lefts.result.now c.slots-rights.result.now c.keep.new.kept.items c.rise.new.slots.items fed c.in_ok-keep.ensures.kept c.rise.ensures.rising in
    subst (λ (z : List Names). SlotsRise 0 (length z) c.as_slice.result.now) (sym c.begin.ensures.labels)
    (subst (SlotsRise 0 (length labels)) (sym c.as_slice.ensures.value) rise)

pub returns-clause-lent : goal.returns-clause-lent
returns-clause-lent c = λ l r hl hr.
    let names = c.args.names.now in
    let labels = c.args.made.now.labels in
    let left = c.args.left.now in
    let right = c.args.right.now in
    let ls = c.slots-lefts.result.now in
    let rs = c.slots-rights.result.now in
    let t = c.at-t.result in
    let marks = united c.marks.result.now c.marks-2.result.now in
    let old = stages c.args.made.now in
    let fed : AreFed names labels ls rs = record {
      signatures = subst (IsDistinct labels_eq) (c.labels.ensures.labels ∙ ap (λ (z : Lent). z.labels) c.lend.ensures) c.labels.ensures.distinct;
      labels_apart = subst (IsDistinct labels_eq) (c.labels-2.ensures.labels ∙ ap (λ (z : Lent). z.labels) c.lend-2.ensures) c.labels-2.ensures.distinct;
      lefts = subst (IsDistinct labels_eq) (c.labels-3.ensures.labels ∙ sym c.requires.left) c.labels-3.ensures.distinct;
      rights = subst (IsDistinct labels_eq) (c.labels-4.ensures.labels ∙ sym c.requires.right) c.labels-4.ensures.distinct;
      named = c.requires.named;
      left_rise = subst (λ (z : List Names). SlotsRise 0 (length z) ls) (sym c.requires.left) c.slots-lefts.ensures.rising;
      right_rise = subst (λ (z : List Names). SlotsRise 0 (length z) rs) (sym c.requires.right) c.slots-rights.ensures.rising;
    } in
    let laws : Laws = record {
      rows = c.lent_steps_are_tables.ensures.rows;
      tables = c.lent_steps_are_tables.ensures.table;
      formed = c.steps_are_well_formed.ensures.combined;
      sides = c.sides_ignore_order.ensures.combined;
      either = c.sides_ignore_order.ensures.either;
      settled = c.rows_ignore_order.ensures.settled;
      table = c.rows_ignore_order.ensures.table;
    } in
    let whole = c.in_ok-put_rows.ensures.lent old t marks c.in_ok-begin.ensures.lent
    ∙ ap (λ (z : List Names). old ++ record { at = t; step = step_of (entries_of z c.as_slice.result.now) marks } ∷ []) c.begin.ensures.labels
    ∙ ap (λ (z : List Slot). old ++ record { at = t; step = step_of (entries_of labels z) marks } ∷ []) c.as_slice.ensures.value in
    one_made laws names labels ls rs c.keep.new.kept.items c.rise.new.slots.items c.marks.result.now c.marks-2.result.now t l r old (stages c.put_rows.new.made) fed
    c.in_ok-keep.ensures.kept c.rise.ensures.shuffled c.rise.ensures.rising
    (stage_here left.labels left.steps c.args.i t ls c.marks.result.now l c.at-t.ensures c.slots-lefts.ensures.slots c.marks.ensures hl
    ∙ ap (λ (z : List Names). record { at = t; step = step_of (entries_of z ls) c.marks.result.now }) (sym c.requires.left))
    (step_here right.labels right.steps c.args.i rs c.marks-2.result.now r c.slots-rights.ensures.slots c.marks-2.ensures hr
    ∙ ap (λ (z : List Names). step_of (entries_of z rs) c.marks-2.result.now) (sym c.requires.right))
    whole
