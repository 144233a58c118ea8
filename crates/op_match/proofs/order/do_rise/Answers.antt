use Rattle.std.proofs.Common.{◌∙◌, false, true, sym}
use Rattle.op_match.proofs.Rising.{rise_here}
use Rattle.op_match.proofs.order.do_rise.Goals as goal

pub loop-slot-preserved : goal.loop-slot-preserved
loop-slot-preserved c =
    c.loop-slot.invariant
    ∙ rise_here c.loop-slot.last c.args.slots.now c.loop-slot.slot-index c.slot-item.result true c.loop-slot-test.true c.slot-item.is (sym c.is_behind.ensures ∙ c.if-not-is_behind.false)

pub returns-then-not-is_behind : goal.returns-then-not-is_behind
returns-then-not-is_behind c =
    sym (c.loop-slot.invariant
    ∙ rise_here c.loop-slot.last c.args.slots.now c.loop-slot.slot-index c.slot-item.result false c.loop-slot-test.true c.slot-item.is (sym c.is_behind.ensures ∙ c.if-not-is_behind.true))
