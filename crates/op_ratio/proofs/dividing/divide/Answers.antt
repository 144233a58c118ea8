use Rattle.std.proofs.Common.{◌+◌, ◌<◌, ℕ, arith, refl, length, sym, subst, take}
use Rattle.step_batch.specs.declared.steps.Slot.{Slot}
use Rattle.step_put.specs.declared.placed.PlacedOutcome.{PlacedOutcome}
use Rattle.op_ratio.specs.Counts.{AreQuotients, IsCount, IsQuotient}
use Rattle.op_ratio.proofs.Counting.{quotients_more, slot_within}
use Rattle.op_ratio.proofs.dividing.divide.Goals as goal

pub loop-slot-init : goal.loop-slot-init
loop-slot-init c = subst (AreQuotients c.args.sum_numbers.now c.args.count_numbers.now c.args.counts.now (take 0 c.args.sums.now)) (sym c.clear.ensures.items) tt

pub number_of-requires : goal.number_of-requires
number_of-requires c =
    let sums = c.args.sum_numbers.now in
    subst (λ (s : Slot). s.place < length sums) (sym c.slot-item.is) (slot_within 0 (length sums) c.args.sums.now c.loop-slot.slot-index c.slot-item.result c.loop-slot-test.true c.requires.sums)

pub count_under-count-requires-clause-room : goal.count_under-count-requires-clause-room
count_under-count-requires-clause-room c =
    let sums = c.args.sum_numbers.now in
    let within = subst (λ (s : Slot). s.place < length sums) (sym c.slot-item.is) (slot_within 0 (length sums) c.args.sums.now c.loop-slot.slot-index c.slot-item.result c.loop-slot-test.true c.requires.sums) in
    let below = c.requires.numbered c.slot-item.result.place within in
    omega (arith, below, c.number_of.ensures)

pub loop-slot-preserved : goal.loop-slot-preserved
loop-slot-preserved c =
    let P = c.args.sum_numbers.now in
    let Q = c.args.count_numbers.now in
    let counts = c.args.counts.now in
    let sums = c.args.sums.now in
    let i = c.loop-slot.slot-index in
    let s = c.slot-item.result in
    let p : PlacedOutcome = record { place = s.place; value = c.quotient.result } in
    let found : IsQuotient P Q counts s p = record {
      place = refl;
      count = c.count_under-count.result;
      found = subst (λ (n : ℕ). IsCount Q counts n c.count_under-count.result) c.number_of.ensures c.count_under-count.ensures;
      value = c.quotient.ensures;
    } in
    subst (AreQuotients P Q counts (take (i + 1) sums)) (sym c.in_ok-push.ensures.items)
    (quotients_more P Q counts sums c.loop-slot.placed.items i s p c.loop-slot-test.true c.loop-slot.invariant (subst (λ (z : Slot). IsQuotient P Q counts z p) c.slot-item.is found))
