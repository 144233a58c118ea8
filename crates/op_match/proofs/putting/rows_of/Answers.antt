use Rattle.std.proofs.Common.{◌∙◌, ◌++◌, ◌∷◌, [], List, length, take, sym, ap}
use Rattle.step_batch.specs.Lent.{row_of}
use Rattle.step_batch.specs.declared.steps.Slot.{Slot}
use Rattle.step_table.specs.declared.step.Row.{Row}
use Rattle.op_match.specs.Places.{rows_in}
use Rattle.op_match.proofs.Lists.{whole}
use Rattle.op_match.proofs.Finding.{row_at, rows_more}
use Rattle.op_match.proofs.Rising.{place_within}
use Rattle.op_match.proofs.putting.rows_of.Goals as goal

pub copy_at-requires : goal.copy_at-requires
copy_at-requires c = place_within 0 (length c.args.labels.now) c.args.slots.now c.loop-slot.slot-index c.slot-item.result c.loop-slot-test.true c.slot-item.is c.requires

pub loop-slot-preserved : goal.loop-slot-preserved
loop-slot-preserved c =
    let labels = c.args.labels.now in
    let slots = c.args.slots.now in
    let i = c.loop-slot.slot-index in
    let s = c.slot-item.result in
    c.in_ok-push.ensures.ok ∙ ap (λ (rs : List Row). rs ++ row_of (c.in_ok-labels.labels, s.value) ∷ []) c.loop-slot.invariant
    ∙ ap (λ (rs : List Row). rows_in labels (take i slots) ++ rs) (sym (row_at labels s c.in_ok-labels.labels c.in_ok-labels.ensures))
    ∙ ap (λ (z : Slot). rows_in labels (take i slots) ++ rows_in labels (z ∷ [])) c.slot-item.is ∙ sym (rows_more labels slots i s c.loop-slot-test.true)

pub returns : goal.returns
returns c = c.loop-slot.invariant ∙ ap (rows_in c.args.labels.now) (whole c.args.slots.now c.loop-slot.slot-index c.loop-slot-test.false)
