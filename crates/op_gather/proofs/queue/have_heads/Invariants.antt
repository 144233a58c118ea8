use Rattle.std.proofs.Common.{◌≡◌, drop}
use Rattle.std.specs.Prelude.{is_some}
use Rattle.std.specs.List.{list_all}
use Rattle.op_gather.specs.Queues.{head_of}
use Rattle.op_gather.proofs.queue.have_heads.Given as goal

abbrev pub invariant-loop-queue : goal.invariant-loop-queue
invariant-loop-queue l = list_all (λ q. is_some (head_of q)) (drop l.queue-index l.queues) ≡ list_all (λ q. is_some (head_of q)) l.queues
