use Rattle.std.proofs.Common.{◌≡◌, ◌∙◌, ap}
use Rattle.op_gather.specs.Queues.{fed}
use Rattle.op_gather.specs.declared.queue.Queue.{Queue}
use Rattle.op_gather.proofs.Replaced.{put_back, replaced_twice}
use Rattle.op_gather.proofs.queue.keep.Goals as goal

pub returns-in-Ok-clause-ok : goal.returns-in-Ok-clause-ok
returns-in-Ok-clause-ok c q e =
    let same : c.replace-queue.result ≡ q = (let was = c.replace-queue.ensures.was in cc) in
    replaced_twice _ _ _ _ _ _ _ c.replace-queue.ensures.now c.replace.ensures.now (c.in-Ok.ensures.ok ∙ ap (λ (z : Queue). fed z c.args.frame.steps c.args.behind) same)

pub returns-in-Err-clause-err : goal.returns-in-Err-clause-err
returns-in-Err-clause-err c = put_back _ _ _ _ _ _ _ c.replace-queue.ensures.now c.replace-in-Err.ensures.now c.in-Err.ensures.err c.replace-queue.ensures.was
