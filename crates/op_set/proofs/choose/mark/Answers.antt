use Rattle.std.proofs.Common.{◌∙◌, ◌<◌, arith, rules, length, ap, sym, subst}
use Rattle.step_batch.specs.declared.steps.Slot.{Slot}
use Rattle.op_set.specs.Sides.{number_of}
use Rattle.op_set.proofs.Choosing.{marked_first, marked_more, set_count, slot_within}
use Rattle.op_set.proofs.choose.mark.Goals as goal

pub number_of-number-requires : goal.number_of-number-requires
number_of-number-requires c =
    subst (λ (s : Slot). s.place < length c.args.numbers.now) (sym c.slot-item.is) (slot_within 0 (length c.args.numbers.now) c.args.slots.now c.loop-slot.slot-index c.slot-item.result c.loop-slot-test.true c.requires.within)

pub bounds-marked-number : goal.bounds-marked-number
bounds-marked-number c =
    let within = subst (λ (s : Slot). s.place < length c.args.numbers.now) (sym c.slot-item.is) (slot_within 0 (length c.args.numbers.now) c.args.slots.now c.loop-slot.slot-index c.slot-item.result c.loop-slot-test.true c.requires.within) in
    let below = c.requires.numbered c.slot-item.result.place within in
    omega (arith, below, c.number_of-number.ensures, c.loop-slot.invariant.count)

pub loop-slot-init : goal.loop-slot-init
loop-slot-init c = record {
  count = c.fill.ensures.len;
  marked = marked_first c.args.numbers.now c.fill.new.self (length c.args.marked.now) (c.fill.ensures.after (λ y k. search rules));
}

pub loop-slot-preserved : goal.loop-slot-preserved
loop-slot-preserved c =
    let within = subst (λ (s : Slot). s.place < length c.args.numbers.now) (sym c.slot-item.is) (slot_within 0 (length c.args.numbers.now) c.args.slots.now c.loop-slot.slot-index c.slot-item.result c.loop-slot-test.true c.requires.within) in
    let below = c.requires.numbered c.slot-item.result.place within in
    record {
      count = set_count c.loop-slot.marked c.number_of-number.result ∙ c.loop-slot.invariant.count;
      marked = marked_more c.loop-slot.marked c.args.numbers.now c.args.slots.now c.loop-slot.slot-index c.number_of-number.result c.slot-item.result c.loop-slot-test.true
          (omega (arith, below, c.number_of-number.ensures, c.loop-slot.invariant.count)) (c.number_of-number.ensures ∙ ap (number_of c.args.numbers.now) c.slot-item.is) c.loop-slot.invariant.marked;
    }
