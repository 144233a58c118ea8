use Rattle.std.proofs.Common.{◌≡◌, take}
use Rattle.op_match.specs.Places.{rows_in}
use Rattle.op_match.proofs.putting.rows_of.Given as goal

abbrev pub invariant-loop-slot : goal.invariant-loop-slot
invariant-loop-slot l = l.rows ≡ rows_in l.fn.labels (take l.slot-index l.slots)
