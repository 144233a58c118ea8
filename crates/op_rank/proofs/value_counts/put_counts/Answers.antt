use Rattle.std.proofs.Common.{◌∙◌, ◌+◌, ◌<◌, ◌∷◌, ◌++◌, [], List, false, arith, length, drop, sym, ap, subst, append_assoc}
use Rattle.std.specs.Prelude.{slice_index_or}
use Rattle.step_batch.specs.Lent.{SlotsRise, on_last, stage_with_row, stages}
use Rattle.step_batch.specs.declared.steps.Slot.{Slot}
use Rattle.step_table.specs.Groups.{Names}
use Rattle.xfrac.specs.Arithmetic.{whole_number}
use Rattle.xfrac.specs.declared.value.XFrac.{XFrac}
use Rattle.op_rank.specs.ValueCounts.{slots_counted}
use Rattle.op_rank.specs.declared.value_counts.Count.{Count}
use Rattle.op_rank.proofs.PutCounts.{counted_here, rows_here, slot_put}
use Rattle.op_rank.proofs.Runs.{get_same}
use Rattle.op_rank.proofs.value_counts.put_counts.Goals as goal

pub put-requires-clause-free : goal.put-requires-clause-free
put-requires-clause-free c =
    let was = c.loop-i.invariant in
    let counts = c.args.counts.now in
    let n : Count = slice_index_or counts c.loop-i.i (record { place = 0; rows = 0 }) in
    let is = get_same counts c.loop-i.i (record { place = 0; rows = 0 }) n c.loop-i-test.true in
    let here = counted_here c.loop-i.rows counts c.loop-i.i n false c.loop-i-test.true is (sym c.if-is_at.false ∙ c.is_at.ensures) in
    let rise = subst (SlotsRise was.room.0 (length c.loop-i.buffer.labels)) here was.room.2 in
    c.free_places_are_free.ensures c.loop-i.buffer was.room.0 n.place rise.0 was.room.1

pub loop-i-preserved : goal.loop-i-preserved
loop-i-preserved c =
    let was = c.loop-i.invariant in
    let counts = c.args.counts.now in
    let n : Count = slice_index_or counts c.loop-i.i (record { place = 0; rows = 0 }) in
    let is = get_same counts c.loop-i.i (record { place = 0; rows = 0 }) n c.loop-i-test.true in
    let rest = slots_counted 0 (drop (c.loop-i.i + 1) counts) in
    let s : Slot = record { place = n.place; value = whole_number (c.loop-i.rows + n.rows) } in
    let here = counted_here c.loop-i.rows counts c.loop-i.i n false c.loop-i-test.true is (sym c.if-is_at.false ∙ c.is_at.ensures) in
    let e = rows_here counts c.loop-i.i n c.loop-i-test.true is in
    let rise : SlotsRise was.room.0 (length c.loop-i.buffer.labels) (s ∷ rest) = subst (SlotsRise was.room.0 (length c.loop-i.buffer.labels)) here was.room.2 in
    let free = c.in_ok-put.ensures.free was.room.0 rise.0 was.room.1 in
    let old = c.args.buffer.now.labels in
    let within : n.place < length old = subst (λ (ls : List Names). n.place < length ls) was.labels rise.1 in
    record {
      labels = c.put.ensures.labels ∙ was.labels;
      begun = free.0;
      room = (n.place + 1, free, subst (λ (ls : List Names). SlotsRise (n.place + 1) (length ls) rest) (sym c.put.ensures.labels) rise.2);
      few = omega (arith, e, was.few);
      later = λ u h. c.in_ok-put.ensures.later u (was.later u h);
      lent = (
        was.lent.0 ++ s ∷ [],
        was.lent.1 ∙ ap (λ (z : List Slot). was.lent.0 ++ z) here ∙ sym (append_assoc was.lent.0 (s ∷ []) rest),
        λ front at marks h.
            slot_put (stages c.loop-i.buffer) (stages c.put.new.self) front at old c.loop-i.buffer.labels was.lent.0 s marks was.labels within
            (λ names there. c.in_ok-put.ensures.stages names there ∙ ap (λ (v : XFrac). on_last (stage_with_row names v) (stages c.loop-i.buffer)) c.whole_count.ensures) (was.lent.2 front at marks h),
      );
    }
