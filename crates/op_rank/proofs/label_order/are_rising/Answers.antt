use Rattle.std.proofs.Common.{arith}
use Rattle.op_rank.proofs.LabelsInOrder.{rise_more, rising_are}
use Rattle.op_rank.proofs.label_order.are_rising.Goals as goal

pub loop-i-preserved : goal.loop-i-preserved
loop-i-preserved c = rise_more c.args.labels.now c.args.places.now c.loop-i.i (let l = c.loop-i.auto.i in omega (arith, l)) c.loop-i-test.true (c.is_before.ensures c.if-not-is_before.false) c.loop-i.invariant

pub returns-clause-rise : goal.returns-clause-rise
returns-clause-rise c = λ t. rising_are c.args.labels.now c.args.places.now (λ k h. c.loop-i.invariant k (let l = c.loop-i-test.false in omega (arith, h, l)))
