use Rattle.std.proofs.Common.{◌∙◌, ◌+◌, ◌≤◌, ◌∷◌, List, [], length, get_or, slice_get, drop, sym, ap, subst}
use Rattle.step_batch.specs.Lent.{SlotsRise, stages}
use Rattle.step_batch.specs.declared.steps.Slot.{Slot}
use Rattle.step_table.specs.Groups.{Names}
use Rattle.op_set.proofs.Rises.{drop_here, get_there, row_more}
use Rattle.op_set.proofs.rising.put_rows.Goals as goal

pub put-requires-clause-free : goal.put-requires-clause-free
put-requires-clause-free c =
    let room = c.loop-slot.invariant.room in
    let rise = subst (SlotsRise room.0 (length c.args.made.now.labels)) (drop_here c.args.slots.now c.loop-slot.slot-index c.slot-item.result c.loop-slot-test.true) room.2 in
    c.free_places_are_free.ensures c.loop-slot.made room.0 c.slot-item.result.place (subst (λ (s : Slot). room.0 ≤ s.place) (sym c.slot-item.is) rise.0) room.1

pub loop-slot-preserved : goal.loop-slot-preserved
loop-slot-preserved c =
    let i = c.loop-slot.invariant in
    let n = c.loop-slot.slot-index in
    let slots = c.args.slots.now in
    let d = c.slot-item.result in
    let labels = c.args.made.now.labels in
    let rest = drop (n + 1) slots in
    let rise = subst (SlotsRise i.room.0 (length labels)) (drop_here slots n d c.loop-slot-test.true) i.room.2 in
    let rise' = subst (λ (s : Slot). SlotsRise i.room.0 (length labels) (s ∷ rest)) (sym c.slot-item.is) rise in
    let here = get_there labels d.place rise'.1 in
    record {
      labels = c.put.ensures.labels ∙ i.labels;
      room = (d.place + 1, c.in_ok-put.ensures.free i.room.0 rise'.0 i.room.1, rise'.2);
      later = λ u h. c.in_ok-put.ensures.later u (i.later u h);
      lent = λ front at marks h.
          row_more labels slots n d (get_or labels d.place []) (stages c.loop-slot.made) (stages c.put.new.self) front at marks c.loop-slot-test.true c.slot-item.is here
          (c.in_ok-put.ensures.stages (get_or labels d.place []) (ap (λ (z : List Names). slice_get z d.place) i.labels ∙ here)) (i.lent front at marks h);
    }
