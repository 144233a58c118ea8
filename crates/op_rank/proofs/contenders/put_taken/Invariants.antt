use Rattle.std.proofs.Common.{◌≡◌, ◌++◌, map, take}
use Rattle.op_rank.specs.Contenders.{as_made, marked}
use Rattle.op_rank.proofs.contenders.put_taken.Given as goal

abbrev pub invariant-loop-i : goal.invariant-loop-i
invariant-loop-i l = l.placed.items ≡ l.fn.placed.items ++ map as_made (marked (take l.i l.is_taken) (take l.i l.slots))
