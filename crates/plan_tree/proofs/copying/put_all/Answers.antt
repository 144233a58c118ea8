use Rattle.std.proofs.Common.{◌∙◌, ◌+◌, ◌++◌, ◌∷◌, [], ap, sym, subst, take, drop, length, arith}
use Rattle.std.specs.Prelude.{List}
use Rattle.step_batch.specs.Lent.{no_marks, on_last, with_slot}
use Rattle.step_batch.specs.declared.steps.Slot.{Slot}
use Rattle.plan_tree.proofs.Copies.{GoesOn, insert_last, last_changed, rise_here}
use Rattle.plan_tree.proofs.copying.put_all.Goals as goal

pub put-requires-clause-there : goal.put-requires-clause-there
put-requires-clause-there c =
    let r = c.loop-slot.invariant.rest in
    let high = length c.args.out.now.labels in
    let here = subst (λ (s : Slot). GoesOn r.0 high s (drop (c.loop-slot.slot-index + 1) c.args.slots.now)) (sym c.slot-item.is)
    (rise_here r.0 high c.loop-slot.slot-index c.args.slots.now c.slot-item.result c.loop-slot-test.true r.1) in
    let w = here.within in
    let n = ap length c.loop-slot.invariant.named in
    omega arith

pub put-requires-clause-free : goal.put-requires-clause-free
put-requires-clause-free c =
    let r = c.loop-slot.invariant.rest in
    let high = length c.args.out.now.labels in
    let here = subst (λ (s : Slot). GoesOn r.0 high s (drop (c.loop-slot.slot-index + 1) c.args.slots.now)) (sym c.slot-item.is)
    (rise_here r.0 high c.loop-slot.slot-index c.args.slots.now c.slot-item.result c.loop-slot-test.true r.1) in
    c.free_places_are_free.ensures c.loop-slot.out r.0 c.slot-item.result.place here.from r.2

pub loop-slot-preserved : goal.loop-slot-preserved
loop-slot-preserved c =
    let i = c.loop-slot.slot-index in
    let slots = c.args.slots.now in
    let slot = c.slot-item.result in
    let inv = c.loop-slot.invariant in
    let high = length c.args.out.now.labels in
    let here = subst (λ (s : Slot). GoesOn inv.rest.0 high s (drop (i + 1) slots)) (sym c.slot-item.is)
    (rise_here inv.rest.0 high i slots slot c.loop-slot-test.true inv.rest.1) in
    record {
      named = c.put.ensures.labels ∙ inv.named;
      rest = (slot.place + 1, here.on, c.in_ok-put.ensures.free inv.rest.0 here.from inv.rest.2);
      later = λ u h. c.in_ok-put.ensures.later u (inv.later u h);
      steps = λ front at e.
          ap (λ (l : Rattle.step_batch.specs.Lent.Lent). l.steps) c.in_ok-put.ensures.ok
          ∙ ap (on_last (with_slot slot.place slot.value)) (inv.steps front at e)
          ∙ last_changed (with_slot slot.place slot.value) front (record { at = at; slots = take i slots; marks = no_marks })
          ∙ ap (λ (s : Slot). front ++ with_slot s.place s.value (record { at = at; slots = take i slots; marks = no_marks }) ∷ []) c.slot-item.is
          ∙ ap (λ (ss : List Slot). front ++ record { at = at; slots = ss; marks = no_marks } ∷ []) (insert_last 0 high i slots slot c.loop-slot-test.true c.requires.rise);
    }
