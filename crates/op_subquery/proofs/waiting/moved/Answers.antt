use Rattle.std.proofs.Common.{◌≡◌, ◌∙◌, ◌≤◌, ◌++◌, ◌∷◌, [], List, length, map, sym, ap, arith}
use Rattle.step_batch.specs.declared.steps.Slot.{Slot}
use Rattle.op_subquery.specs.Kept.{moved}
use Rattle.op_subquery.proofs.Placing.{moved_next, rise_within, taken_all}
use Rattle.op_subquery.proofs.waiting.moved.Goals as goal

pub place_at-requires : goal.place_at-requires
place_at-requires c = rise_within 0 (length c.args.places.now) c.args.slots.now c.loop-slot.slot-index c.slot-item.result c.requires c.loop-slot-test.true c.slot-item.is

pub loop-slot-preserved : goal.loop-slot-preserved
loop-slot-preserved c =
    let d : Slot = c.slot-item.result in
    let own : Slot = record { place = c.place_at.result; value = d.value } in
    let same : own ≡ moved c.args.places.now d = λ i. record { place = c.place_at.ensures i; value = d.value } in
    c.in_ok-push.ensures.items ∙ ap (λ (slots : List Slot). slots ++ own ∷ []) c.loop-slot.invariant
    ∙ sym (moved_next c.args.places.now c.args.slots.now c.loop-slot.slot-index d own c.loop-slot-test.true c.slot-item.is same)

pub returns : goal.returns
returns c =
    let past : length c.args.slots.now ≤ c.loop-slot.slot-index = omega (arith, c.loop-slot-test.false) in
    c.loop-slot.invariant ∙ ap (map (moved c.args.places.now)) (taken_all c.args.slots.now c.loop-slot.slot-index past)
