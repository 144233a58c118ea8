use Rattle.std.proofs.Common.{◌∙◌, arith, refl, ap}
use Rattle.op_buckets.specs.SlotOrders.{slots_in}
use Rattle.op_buckets.proofs.SlotsOrdered.{numbers_count, order_of_numbers, slots_more}
use Rattle.op_buckets.proofs.order.number.Goals as goal

pub returns-in_err-push-clause-all : goal.returns-in_err-push-clause-all
returns-in_err-push-clause-all c = order_of_numbers _ c.loop-slot.slot (ap slots_in c.in_err-push.ensures.items ∙ c.loop-slot.invariant)

pub loop-slot-preserved : goal.loop-slot-preserved
loop-slot-preserved c = slots_more c.loop-slot.keys.items c.push.new.self.items _ c.loop-slot.slot c.loop-slot.invariant refl c.in_ok-push.ensures.items

pub returns-clause-all : goal.returns-clause-all
returns-clause-all c = order_of_numbers _ c.loop-slot.slot c.loop-slot.invariant

pub returns-clause-count : goal.returns-clause-count
returns-clause-count c =
    let n = numbers_count c.loop-slot.keys.items c.loop-slot.slot c.loop-slot.invariant in
    let l = c.loop-slot-test.false in
    let m = c.loop-slot.auto.slot-end in
    omega (arith, n, l, m)
