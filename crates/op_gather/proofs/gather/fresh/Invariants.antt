use Rattle.std.proofs.Common.{◌≡◌, replicate}
use Rattle.op_gather.specs.Queues.{nothing_of}
use Rattle.op_gather.proofs.gather.fresh.Given as goal

abbrev pub invariant-loop-i : goal.invariant-loop-i
invariant-loop-i l = l.queues ≡ replicate l.i (nothing_of l.first)
