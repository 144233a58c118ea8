use Rattle.std.proofs.Common.{◌<◌, ◌∙◌, arith, length, sym, ap, subst}
use Rattle.step_batch.specs.declared.steps.Slot.{Slot}
use Rattle.op_ratio.specs.Counts.{number_of as number_at}
use Rattle.op_ratio.proofs.Counting.{any_default, noted_more, set_count, slot_within}
use Rattle.op_ratio.proofs.dividing.note.Goals as goal

pub number_of-number-requires : goal.number_of-number-requires
number_of-number-requires c =
    let numbers = c.args.numbers.now in
    subst (λ (s : Slot). s.place < length numbers) (sym c.index-slots-i.is)
    (slot_within 0 (length numbers) c.args.slots.now c.loop-i.i c.index-slots-i.result c.loop-i-test.true c.requires.within)

pub bounds-at-number : goal.bounds-at-number
bounds-at-number c =
    let numbers = c.args.numbers.now in
    let within : c.index-slots-i.result.place < length numbers = subst (λ (s : Slot). s.place < length numbers) (sym c.index-slots-i.is)
    (slot_within 0 (length numbers) c.args.slots.now c.loop-i.i c.index-slots-i.result c.loop-i-test.true c.requires.within) in
    let below = c.requires.numbered c.index-slots-i.result.place within in
    omega (arith, below, c.number_of-number.ensures, c.loop-i.invariant.count)

pub loop-i-preserved : goal.loop-i-preserved
loop-i-preserved c =
    let numbers = c.args.numbers.now in
    let slots = c.args.slots.now in
    let i = c.loop-i.i in
    let n = c.number_of-number.result in
    let within : c.index-slots-i.result.place < length numbers = subst (λ (s : Slot). s.place < length numbers) (sym c.index-slots-i.is)
    (slot_within 0 (length numbers) slots i c.index-slots-i.result c.loop-i-test.true c.requires.within) in
    let below = c.requires.numbered c.index-slots-i.result.place within in
    let there : n < length c.loop-i.at = omega (arith, below, c.number_of-number.ensures, c.loop-i.invariant.count) in
    record {
      count = set_count c.loop-i.at n i ∙ c.loop-i.invariant.count;
      noted = noted_more c.loop-i.at numbers slots i n c.loop-i-test.true there
          (λ (d : Slot). c.number_of-number.ensures ∙ ap (number_at numbers) (c.index-slots-i.is ∙ any_default slots i c.index-slots-i.result d c.loop-i-test.true)) c.loop-i.invariant.noted;
    }
