use Rattle.op_rank.proofs.Choosing.{slot_left, slot_taken}
use Rattle.op_rank.proofs.contenders.put_taken.Goals as goal

pub loop-i-preserved : goal.loop-i-preserved
loop-i-preserved c =
    slot_taken c.args.is_taken.now c.args.slots.now c.loop-i.i c.index-slots-i.result c.args.placed.now.items c.loop-i.placed.items c.push.new.self.items c.requires c.loop-i-test.true c.if-not-is_taken-i.false c.index-slots-i.is c.loop-i.invariant c.in_ok-push.ensures.items

pub loop-i-preserved-then-not-is_taken-i : goal.loop-i-preserved-then-not-is_taken-i
loop-i-preserved-then-not-is_taken-i c = slot_left c.args.is_taken.now c.args.slots.now c.loop-i.i c.args.placed.now.items c.loop-i.placed.items c.requires c.loop-i-test.true c.if-not-is_taken-i.true c.loop-i.invariant
