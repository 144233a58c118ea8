use Rattle.std.proofs.Common.{◌∙◌, ◌+◌, ◌<◌, ◌++◌, ◌∷◌, [], List, length, refl, sym, ap, subst}
use Rattle.std.specs.Prelude.{slice_get}
use Rattle.step_batch.specs.Lent.{entries_of, stages, step_of}
use Rattle.step_batch.specs.declared.steps.Slot.{Slot}
use Rattle.step_table.specs.Groups.{Names}
use Rattle.op_match.proofs.Lists.{whole}
use Rattle.op_match.proofs.LastStep.{rise_on, value_put}
use Rattle.op_match.proofs.putting.put_values.Goals as goal

pub loop-slot-init : goal.loop-slot-init
loop-slot-init c = record {
  labels = refl;
  room = (0, c.requires.begun, c.requires.rising);
  later = λ u h. h;
  lent = λ front at marks h. h;
}

pub put-requires-clause-begun : goal.put-requires-clause-begun
put-requires-clause-begun c = c.loop-slot.invariant.room.1.0

pub put-requires-clause-there : goal.put-requires-clause-there
put-requires-clause-there c =
    let room = c.loop-slot.invariant.room in
    let rise = rise_on room.0 (length c.args.rows.now.labels) c.args.slots.now c.loop-slot.slot-index c.slot-item.result c.loop-slot-test.true c.slot-item.is room.2 in
    subst (λ (ls : List Names). c.slot-item.result.place < length ls) (sym c.loop-slot.invariant.labels) rise.1

pub put-requires-clause-free : goal.put-requires-clause-free
put-requires-clause-free c =
    let room = c.loop-slot.invariant.room in
    let rise = rise_on room.0 (length c.args.rows.now.labels) c.args.slots.now c.loop-slot.slot-index c.slot-item.result c.loop-slot-test.true c.slot-item.is room.2 in
    c.free_places_are_free.ensures c.loop-slot.rows room.0 c.slot-item.result.place rise.0 room.1

pub loop-slot-preserved : goal.loop-slot-preserved
loop-slot-preserved c =
    let v = c.loop-slot.invariant in
    let i = c.loop-slot.slot-index in
    let s = c.slot-item.result in
    let labels = c.args.rows.now.labels in
    let rise = rise_on v.room.0 (length labels) c.args.slots.now i s c.loop-slot-test.true c.slot-item.is v.room.2 in
    record {
      labels = c.put.ensures.labels ∙ v.labels;
      room = (s.place + 1, c.in_ok-put.ensures.free v.room.0 rise.0 v.room.1, rise.2);
      later = λ u h. c.in_ok-put.ensures.later u (v.later u h);
      lent = λ front at marks h. value_put labels (stages c.loop-slot.rows) (stages c.put.new.self) front at marks c.args.slots.now i s c.loop-slot-test.true c.slot-item.is rise.1
          (λ names e. c.in_ok-put.ensures.stages names (ap (λ (ls : List Names). slice_get ls s.place) v.labels ∙ e)) (v.lent front at marks h);
    }

pub returns-clause-begun : goal.returns-clause-begun
returns-clause-begun c = c.loop-slot.invariant.room.1.0

pub returns-clause-lent : goal.returns-clause-lent
returns-clause-lent c = λ front at marks h.
    c.loop-slot.invariant.lent front at marks h
    ∙ ap (λ (ss : List Slot). front ++ record { at = at; step = step_of (entries_of c.args.rows.now.labels ss) marks } ∷ []) (whole c.args.slots.now c.loop-slot.slot-index c.loop-slot-test.false)
