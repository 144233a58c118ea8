use Rattle.std.proofs.Common.{refl}
use Rattle.op_rank.proofs.LabelsInOrder.{listed_more}
use Rattle.op_rank.proofs.label_order.listed.Goals as goal

pub loop-i-preserved : goal.loop-i-preserved
loop-i-preserved c = listed_more c.args.labels.now c.loop-i.all.items c.push.new.self.items c.loop-i.i c.index-labels-i.result _ c.loop-i-test.true c.index-labels-i.is c.loop-i.invariant refl refl c.in_ok-push.ensures.items
