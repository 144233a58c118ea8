use Rattle.std.proofs.Common.{◌≡◌, map, take}
use Rattle.op_gather.specs.Queues.{has_room}
use Rattle.exchange.proofs.pulling.live_of.Given as goal

abbrev pub invariant-loop-k : goal.invariant-loop-k
invariant-loop-k l = l.live ≡ map has_room (take l.k l.gather.queues)
