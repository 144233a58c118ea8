use Rattle.std.proofs.Common.{◌<◌, subst}
use Rattle.exchange.proofs.Filling.{live_more}
use Rattle.exchange.proofs.pulling.live_of.Goals as goal

pub loop-k-preserved : goal.loop-k-preserved
loop-k-preserved c = live_more c.args.gather.now.queues c.loop-k.k c.loop-k.live _ c.room.result c.loop-k.invariant (subst (λ n. c.loop-k.k < n) c.engines-k-end.ensures c.loop-k-test.true) c.room.ensures c.in_ok-push.ensures.ok
