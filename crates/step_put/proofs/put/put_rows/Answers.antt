use Rattle.std.proofs.Common.{◌∙◌, ◌+◌, ◌<◌, List, slice_get, slice_index_or, length, drop, refl, sym, ap, subst, arith}
use Rattle.step_batch.specs.Lent.{Lent, stages, with_slot}
use Rattle.step_table.specs.Groups.{Names}
use Rattle.step_table.specs.declared.step.Row.{Row}
use Rattle.step_put.proofs.Putting.{AreFree, at_length, at_place, free_here, free_next, stages_next, still_begun, within}
use Rattle.step_put.proofs.put.put_rows.Goals as goal

pub bounds-places-i : goal.bounds-places-i
bounds-places-i c = let e = at_length c.args.buffer.now.labels c.args.rows.now c.args.places.now c.requires.places in omega (arith, e, c.loop-i-test.true)

pub put-requires-clause-there : goal.put-requires-clause-there
put-requires-clause-there c =
    let h = at_place c.args.buffer.now.labels c.args.rows.now c.args.places.now c.loop-i.i 0 c.index-rows-i.result c.loop-i-test.true c.requires.places in
    subst (λ (z : List Names). slice_index_or c.args.places.now c.loop-i.i 0 < length z) (sym c.loop-i.invariant.labels) (within c.args.buffer.now.labels _ _ h)

pub put-requires-clause-free : goal.put-requires-clause-free
put-requires-clause-free c =
    let h = at_place c.args.buffer.now.labels c.args.rows.now c.args.places.now c.loop-i.i 0 c.index-rows-i.result c.loop-i-test.true c.requires.places in
    free_here c.loop-i.buffer.labels c.loop-i.buffer.steps c.args.rows.now c.loop-i.i (slice_index_or c.args.places.now c.loop-i.i 0) c.index-rows-i.result c.loop-i-test.true c.loop-i.invariant.free
    (ap (λ (z : List Names). slice_get z (slice_index_or c.args.places.now c.loop-i.i 0)) c.loop-i.invariant.labels ∙ h)

pub loop-i-preserved : goal.loop-i-preserved
loop-i-preserved c =
    let i = c.loop-i.invariant in
    let p = slice_index_or c.args.places.now c.loop-i.i 0 in
    let r : Row = slice_index_or c.args.rows.now c.loop-i.i c.index-rows-i.result in
    let h = ap (λ (z : List Names). slice_get z p) i.labels ∙ at_place c.args.buffer.now.labels c.args.rows.now c.args.places.now c.loop-i.i 0 c.index-rows-i.result c.loop-i-test.true c.requires.places in
    record {
      labels = c.put.ensures.labels ∙ i.labels;
      begun = still_begun (with_slot p r.value) c.loop-i.buffer.steps c.put.new.self.steps (ap (λ (z : Lent). z.steps) c.in_ok-put.ensures.ok) i.begun;
      free = subst (λ (z : List Names). AreFree z c.put.new.self.steps (drop (c.loop-i.i + 1) c.args.rows.now)) (sym c.put.ensures.labels)
          (free_next c.loop-i.buffer.labels c.loop-i.buffer.steps c.put.new.self.steps c.args.rows.now c.loop-i.i p c.index-rows-i.result c.loop-i-test.true c.requires.table h c.in_ok-put.ensures.others i.free);
      later = λ u k. c.in_ok-put.ensures.later u (i.later u k);
      lent = λ front at o.
          stages_next (stages c.loop-i.buffer) (stages c.put.new.self) front at c.args.rows.now c.loop-i.i c.index-rows-i.result r.value c.loop-i-test.true refl
          (i.lent front at o) (c.in_ok-put.ensures.stages r.labels h);
    }
