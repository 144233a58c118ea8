use Rattle.std.proofs.Common.{◌≡◌, map, take}
use Rattle.op_subquery.specs.Kept.{moved}
use Rattle.op_subquery.proofs.waiting.moved.Given as goal

abbrev pub invariant-loop-slot : goal.invariant-loop-slot
invariant-loop-slot l = l.own.items ≡ map (moved l.places) (take l.slot-index l.slots)
