use Rattle.std.proofs.Common.{◌≤◌, ◌+◌, List, length, drop, refl, subst, arith}
use Rattle.step_batch.specs.Columns.{Columns}
use Rattle.step_batch.specs.Lent.{entries_of}
use Rattle.step_table.specs.Groups.{Names, items_of}
use Rattle.xfrac.specs.declared.value.XFrac.{XFrac}
use Rattle.op_subquery.specs.Kept.{samples_under, timed_entries, with_samples}
use Rattle.op_subquery.proofs.Handing.{Adds, ComeBefore, adds_done, adds_next, all_before, entries_here, entries_past, slot_within}
use Rattle.op_subquery.proofs.hand.add_rows.Goals as goal

pub loop-slot-init : goal.loop-slot-init
loop-slot-init c = record {
  distinct = c.requires.distinct;
  before = all_before c.args.at c.args.windows.now.rows (entries_of c.args.labels.now c.args.slots.now) c.requires.before;
  rows = λ q. refl;
}

pub labels_at-requires : goal.labels_at-requires
labels_at-requires c = slot_within (length c.args.labels.now) c.args.slots.now c.loop-slot.slot-index c.slot-item.result c.loop-slot-test.true c.slot-item.is c.requires.within

pub add_one-requires : goal.add_one-requires
add_one-requires c =
    let here = entries_here c.args.labels.now c.args.slots.now c.loop-slot.slot-index c.slot-item.result c.labels_at.result.now c.loop-slot-test.true c.slot-item.is c.labels_at.ensures in
    (subst (ComeBefore c.args.at c.loop-slot.windows.rows) here c.loop-slot.invariant.before).0

pub loop-slot-preserved : goal.loop-slot-preserved
loop-slot-preserved c =
    let labels = c.args.labels.now in
    let slots = c.args.slots.now in
    let n = c.loop-slot.slot-index in
    let d = c.slot-item.result in
    let whole : Names → Columns = λ q. with_samples (samples_under q c.args.windows.now.rows) (items_of (timed_entries c.args.at (entries_of labels slots)) q) in
    let here = entries_here labels slots n d c.labels_at.result.now c.loop-slot-test.true c.slot-item.is c.labels_at.ensures in
    adds_next c.args.at (c.labels_at.result.now, d.value) (entries_of labels (drop (n + 1) slots)) c.loop-slot.windows.rows c.add_one.new.windows.rows whole c.in_ok-add_one.ensures
    (subst (λ (es : List (Names × XFrac)). Adds c.args.at es c.loop-slot.windows.rows whole) here c.loop-slot.invariant)

pub returns : goal.returns
returns c =
    let labels = c.args.labels.now in
    let slots = c.args.slots.now in
    let n = c.loop-slot.slot-index in
    let whole : Names → Columns = λ q. with_samples (samples_under q c.args.windows.now.rows) (items_of (timed_entries c.args.at (entries_of labels slots)) q) in
    let past : length slots ≤ n = omega (arith, c.loop-slot-test.false) in
    adds_done c.args.at (entries_of labels (drop n slots)) c.loop-slot.windows.rows whole (entries_past labels slots n past) c.loop-slot.invariant
