use Rattle.std.proofs.Common.{◌≡◌, ap}
use Rattle.op_gather.specs.Queues.{ended}
use Rattle.op_gather.proofs.Replaced.{replaced_twice}
use Rattle.op_gather.proofs.queue.end.Goals as goal

pub returns : goal.returns
returns c q e =
    let same : c.replace-queue.result ≡ q = cc in
    replaced_twice _ _ _ _ _ _ _ c.replace-queue.ensures.now c.replace.ensures.now (ap ended same)
