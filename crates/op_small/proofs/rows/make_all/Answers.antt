use Rattle.op_small.proofs.Lents.{made_more}
use Rattle.op_small.proofs.rows.make_all.Goals as goal

pub loop-slot-preserved : goal.loop-slot-preserved
loop-slot-preserved c =
    made_more c.args.own c.args.t.0 c.args.slots.now c.loop-slot.slot-index c.slot-item.result c.value_of_row.result c.loop-slot.made.items c.push.new.self.items c.loop-slot-test.true
    c.slot-item.is c.value_of_row.ensures c.loop-slot.invariant c.in_ok-push.ensures.items
