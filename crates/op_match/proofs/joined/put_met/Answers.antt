use Rattle.std.proofs.Common.{◌≡◌, ◌∙◌, ◌++◌, ◌∷◌, [], List, length, refl, sym, ap, subst}
use Rattle.std.specs.List.{IsDistinct}
use Rattle.label_set.specs.LabelEquality.{labels_eq}
use Rattle.step_batch.specs.Lent.{Lent, SlotsRise, entries_of, stages, step_of}
use Rattle.step_table.specs.Groups.{Names}
use Rattle.step_table.specs.Matching.{paired}
use Rattle.step_table.specs.Unions.{united, with_fatal}
use Rattle.step_table.specs.WellFormed.{IsTable}
use Rattle.step_table.specs.declared.marks.Marks.{Marks}
use Rattle.step_table.specs.declared.step.Step.{Step}
use Rattle.op_match.specs.Places.{rows_in, step_with}
use Rattle.step_put.specs.Feeding.{stage_here, step_here}
use Rattle.op_match.proofs.LastStep.{clear_joined, whole_joined, whole_table}
use Rattle.op_match.proofs.joined.put_met.Goals as goal

pub put_whole-requires-clause-later : goal.put_whole-requires-clause-later
put_whole-requires-clause-later c = c.requires.later c.at-at.result c.at-at.ensures

pub put_whole-requires-clause-table : goal.put_whole-requires-clause-table
put_whole-requires-clause-table c =
    let A = c.args.left.now.labels in
    let B = c.args.right.now.labels in
    let xs = c.slots-left_slots.result.now in
    let ys = c.slots-right_slots.result.now in
    let a = c.marks-left_marks.result.now in
    let b = c.marks-right_marks.result.now in
    let dl = subst (IsDistinct labels_eq) c.labels-left_labels.ensures.labels c.labels-left_labels.ensures.distinct in
    let dr = subst (IsDistinct labels_eq) c.labels-right_labels.ensures.labels c.labels-right_labels.ensures.distinct in
    let wl : c.in_ok-l.l ≡ step_with (rows_in A xs) a = c.in_ok-l.ensures ∙ ap (λ (ls : List Names). step_with (rows_in ls xs) a) c.labels-left_labels.ensures.labels in
    let wr : c.in_ok-r.r ≡ step_with (rows_in B ys) b = c.in_ok-r.ensures ∙ ap (λ (ls : List Names). step_with (rows_in ls ys) b) c.labels-right_labels.ensures.labels in
    let whole : paired (step_with (rows_in A xs) a) (step_with (rows_in B ys) b) c.args.op c.args.p.now ≡ paired c.in_ok-l.l c.in_ok-r.r c.args.op c.args.p.now = sym (λ i. paired (wl i) (wr i) c.args.op c.args.p.now) in
    subst (λ (s : Step). IsTable s.table.rows) whole
    (whole_table c.lent_steps_are_tables.ensures.rows c.sides_ignore_order.ensures.paired c.lent_steps_are_tables.ensures.table c.steps_are_well_formed.ensures.paired c.args.op c.args.p.now A B xs ys a b dl dr c.slots-left_slots.ensures.rising c.slots-right_slots.ensures.rising)

pub returns-then-not-clear-clause-lent : goal.returns-then-not-clear-clause-lent
returns-then-not-clear-clause-lent c = λ l r hl hr.
    let A = c.args.left.now.labels in
    let B = c.args.right.now.labels in
    let xs = c.slots-left_slots.result.now in
    let ys = c.slots-right_slots.result.now in
    let a = c.marks-left_marks.result.now in
    let b = c.marks-right_marks.result.now in
    let dl = subst (IsDistinct labels_eq) c.labels-left_labels.ensures.labels c.labels-left_labels.ensures.distinct in
    let dr = subst (IsDistinct labels_eq) c.labels-right_labels.ensures.labels c.labels-right_labels.ensures.distinct in
    let wl : c.in_ok-l.l ≡ step_with (rows_in A xs) a = c.in_ok-l.ensures ∙ ap (λ (ls : List Names). step_with (rows_in ls xs) a) c.labels-left_labels.ensures.labels in
    let wr : c.in_ok-r.r ≡ step_with (rows_in B ys) b = c.in_ok-r.ensures ∙ ap (λ (ls : List Names). step_with (rows_in ls ys) b) c.labels-right_labels.ensures.labels in
    let i = c.args.i in
    let el = stage_here A c.args.left.now.steps i c.at-at.result xs a l c.at-at.ensures c.slots-left_slots.ensures.slots c.marks-left_marks.ensures hl in
    let er = step_here B c.args.right.now.steps i ys b r c.slots-right_slots.ensures.slots c.marks-right_marks.ensures hr in
    whole_joined c.lent_steps_are_tables.ensures.rows c.sides_ignore_order.ensures.paired c.args.op c.args.p.now A B xs ys a b c.at-at.result l r (stages c.args.rows.now) (stages c.put_whole.new.rows) dl dr c.slots-left_slots.ensures.rising c.slots-right_slots.ensures.rising el er
    (c.in_ok-put_whole.ensures.lent ∙ (λ j. stages c.args.rows.now ++ record { at = c.at-at.result; step = paired (wl j) (wr j) c.args.op c.args.p.now } ∷ []))

pub put_slots-requires-clause-later : goal.put_slots-requires-clause-later
put_slots-requires-clause-later c = c.requires.later c.at-at.result c.at-at.ensures

pub put_slots-requires-clause-rising : goal.put_slots-requires-clause-rising
put_slots-requires-clause-rising c =
    subst (SlotsRise 0 (length c.args.rows.now.labels)) (sym c.as_slice.ensures.value)
    (c.requires.made c.if-not-clear.false c.slots-left_slots.result.now c.slots-right_slots.result.now c.slots-left_slots.ensures.slots c.slots-right_slots.ensures.slots).rising

pub returns-clause-lent : goal.returns-clause-lent
returns-clause-lent c = λ l r hl hr.
    let A = c.args.left.now.labels in
    let B = c.args.right.now.labels in
    let xs = c.slots-left_slots.result.now in
    let ys = c.slots-right_slots.result.now in
    let a = c.marks-left_marks.result.now in
    let b = c.marks-right_marks.result.now in
    let dl = subst (IsDistinct labels_eq) c.labels-left_labels.ensures.labels c.labels-left_labels.ensures.distinct in
    let dr = subst (IsDistinct labels_eq) c.labels-right_labels.ensures.labels c.labels-right_labels.ensures.distinct in
    let i = c.args.i in
    let el = stage_here A c.args.left.now.steps i c.at-at.result xs a l c.at-at.ensures c.slots-left_slots.ensures.slots c.marks-left_marks.ensures hl in
    let er = step_here B c.args.right.now.steps i ys b r c.slots-right_slots.ensures.slots c.marks-right_marks.ensures hr in
    let made = c.requires.made c.if-not-clear.false xs ys c.slots-left_slots.ensures.slots c.slots-right_slots.ensures.slots in
    let labels = c.args.rows.now.labels in
    let d = subst (IsDistinct labels_eq) (c.labels.ensures.labels ∙ ap (λ (z : Lent). z.labels) c.lend.ensures) c.labels.ensures.distinct in
    let marks : c.unite.new.self ≡ united a b = c.in_ok-unite.ensures.ok ∙ ap (λ (z : Marks). united z b) c.in_ok-marks.ensures in
    let put : stages c.put_slots.new.rows ≡ stages c.args.rows.now ++ record { at = c.at-at.result; step = step_of (entries_of labels c.args.found.now.slots.items) (with_fatal c.unite.new.self c.args.found.now.fatal) } ∷ [] =
    c.in_ok-put_slots.ensures.lent ∙ (λ j. stages c.args.rows.now ++ record { at = c.at-at.result; step = step_of (entries_of labels (c.as_slice.ensures.value j)) (with_fatal c.unite.new.self (c.replace-fatal.ensures.value j)) } ∷ []) in
    clear_joined c.lent_steps_are_tables.ensures.rows c.sides_ignore_order.ensures.paired c.args.op c.args.p.now A B xs ys a b c.at-at.result l r (stages c.args.rows.now) (stages c.put_slots.new.rows) dl dr c.slots-left_slots.ensures.rising c.slots-right_slots.ensures.rising el er
    c.rows_ignore_order.ensures.table c.lent_steps_are_tables.ensures.table labels c.args.found.now.slots.items c.args.found.now.fatal c.unite.new.self (rows_in A xs) (rows_in B ys) d refl refl made marks put
