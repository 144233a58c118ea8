use Rattle.std.proofs.Common.{◌∙◌, ◌+◌, ◌∷◌, ◌++◌, [], ℕ, List, length, take, drop, refl, sym, ap, subst}
use Rattle.std.specs.List.{cons_option}
use Rattle.std.specs.Option.{option_to_list}
use Rattle.step_batch.specs.Lent.{SlotsRise, entries_of, step_of}
use Rattle.step_put.specs.Placed.{slot_at, slots_made}
use Rattle.step_table.specs.Groups.{Names}
use Rattle.xfrac.specs.declared.value.XFrac.{XFrac}
use Rattle.step_put.proofs.Making.{entries_more, faults_more, row_within, slot_alone, slots_here}
use Rattle.step_put.proofs.rising.put_values.Goals as goal

pub loop-row-init : goal.loop-row-init
loop-row-init c = record {
  labels = refl;
  begun = c.requires.begun.0;
  room = (0, c.requires.begun, c.requires.rising);
  later = λ u h. h;
  faults = c.none-faults.ensures;
  lent = λ front at marks h. h;
}

pub place_at-place-requires : goal.place_at-place-requires
place_at-place-requires c = row_within (length c.args.places.now) c.args.placed.now c.loop-row.row-index c.row-item.result c.loop-row-test.true c.row-item.is c.requires.within

pub put_value-requires : goal.put_value-requires
put_value-requires c =
    let i = c.loop-row.invariant in
    let high = length c.loop-row.buffer.labels in
    let placed = c.args.placed.now in
    let places = c.args.places.now in
    let here = slots_here places placed c.loop-row.row-index c.row-item.result c.loop-row-test.true c.row-item.is in
    let rise = subst (SlotsRise i.room.0 high) here i.room.2 in
    let rise' = subst (λ (n : ℕ). SlotsRise i.room.0 high (cons_option (slot_at n c.row-item.result.value) (slots_made places (drop (c.loop-row.row-index + 1) placed)))) (sym c.place_at-place.ensures) rise in
    record { room = (i.room.0, i.room.1, slot_alone i.room.0 high (slot_at c.place_at-place.result c.row-item.result.value) (slots_made places (drop (c.loop-row.row-index + 1) placed)) rise') }

pub loop-row-preserved : goal.loop-row-preserved
loop-row-preserved c =
    let i = c.loop-row.invariant in
    let places = c.args.places.now in
    let placed = c.args.placed.now in
    let n = c.loop-row.row-index in
    let labels = c.loop-row.buffer.labels in
    let rest = slots_made places (drop (n + 1) placed) in
    let here = slots_here places placed n c.row-item.result c.loop-row-test.true c.row-item.is in
    let rise = subst (SlotsRise i.room.0 (length labels)) here i.room.2 in
    let rise' = subst (λ (m : ℕ). SlotsRise i.room.0 (length labels) (cons_option (slot_at m c.row-item.result.value) rest)) (sym c.place_at-place.ensures) rise in
    let next = c.in_ok-faults.ensures.room i.room.0 rest i.room.1 rise' in
    let old = c.args.buffer.now.labels in
    record {
      labels = c.put_value.ensures.labels ∙ i.labels;
      begun = c.in_ok-faults.ensures.begun;
      room = (next.0, next.1, subst (λ (ls : List Names). SlotsRise next.0 (length ls) rest) (sym c.put_value.ensures.labels) next.2);
      later = λ u h. c.in_ok-faults.ensures.later u (i.later u h);
      faults = faults_more c.loop-row.faults _ placed n c.row-item.result c.loop-row-test.true c.row-item.is c.in_ok-faults.ensures.faults i.faults;
      lent = λ front at marks h.
          c.in_ok-faults.ensures.stages front at (entries_of old (slots_made places (take n placed))) marks (i.lent front at marks h)
          ∙ ap (λ (ls : List Names). front ++ record { at = at; step = step_of (entries_of old (slots_made places (take n placed)) ++ entries_of ls (option_to_list (slot_at c.place_at-place.result c.row-item.result.value))) marks } ∷ []) i.labels
          ∙ ap (λ (m : ℕ). front ++ record { at = at; step = step_of (entries_of old (slots_made places (take n placed)) ++ entries_of old (option_to_list (slot_at m c.row-item.result.value))) marks } ∷ []) c.place_at-place.ensures
          ∙ ap (λ (es : List (Names × XFrac)). front ++ record { at = at; step = step_of es marks } ∷ []) (sym (entries_more old places placed n c.row-item.result c.loop-row-test.true c.row-item.is));
    }
