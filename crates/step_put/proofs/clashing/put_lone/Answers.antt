use Rattle.std.proofs.Common.{◌∙◌, ◌+◌, ◌∷◌, ◌++◌, [], List, arith, length, drop, refl, sym, ap, append_assoc}
use Rattle.std.specs.Option.{option_to_list}
use Rattle.step_batch.specs.Lent.{entries_of, entry_of, step_of}
use Rattle.step_batch.specs.declared.steps.Slot.{Slot}
use Rattle.step_put.specs.Clashes.{lone_slot, lone_slots}
use Rattle.step_table.specs.Groups.{Names}
use Rattle.xfrac.specs.declared.value.XFrac.{XFrac}
use Rattle.step_put.proofs.Lone.{lone_next}
use Rattle.step_put.proofs.Making.{chosen_append}
use Rattle.step_put.proofs.clashing.put_lone.Goals as goal

pub loop-place-init : goal.loop-place-init
loop-place-init c = record { labels = refl; free = c.requires.begun; later = λ u h. h; lent = ([], refl, λ front at marks h. h) }

pub put_cell-requires-clause-there : goal.put_cell-requires-clause-there
put_cell-requires-clause-there c =
    let l = c.loop-place-test.true in
    let w = c.requires.within in
    let e = ap (λ (ls : List Names). length ls) c.loop-place.invariant.labels in
    omega arith

pub loop-place-preserved : goal.loop-place-preserved
loop-place-preserved c =
    let was = c.loop-place.invariant in
    let place = c.loop-place.place in
    let cell = c.index-cells-place.result in
    let old = c.args.buffer.now.labels in
    let one : List Slot = option_to_list (lone_slot place cell) in
    let rest = lone_slots (place + 1) (drop (place + 1) c.args.cells.now) in
    let here = lone_next place c.args.cells.now cell c.loop-place-test.true c.index-cells-place.is in
    record {
      labels = c.put_cell.ensures.labels ∙ was.labels;
      free = c.in_ok-put_cell.ensures.free;
      later = λ u h. c.in_ok-put_cell.ensures.later u (was.later u h);
      lent = (
        was.lent.0 ++ one,
        was.lent.1 ∙ ap (λ (z : List Slot). was.lent.0 ++ z) here ∙ sym (append_assoc was.lent.0 one rest),
        λ front at marks h.
            c.in_ok-put_cell.ensures.stages front at (entries_of old was.lent.0) marks (was.lent.2 front at marks h)
            ∙ ap (λ (ls : List Names). front ++ record { at = at; step = step_of (entries_of old was.lent.0 ++ entries_of ls one) marks } ∷ []) was.labels
            ∙ ap (λ (es : List (Names × XFrac)). front ++ record { at = at; step = step_of es marks } ∷ []) (sym (chosen_append (entry_of old) was.lent.0 one)),
      );
    }
