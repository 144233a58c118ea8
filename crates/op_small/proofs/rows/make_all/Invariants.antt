use Rattle.std.proofs.Common.{◌≡◌, map, take}
use Rattle.op_small.specs.Rules.{each_of}
use Rattle.op_small.proofs.rows.make_all.Given as goal

abbrev pub invariant-loop-slot : goal.invariant-loop-slot
invariant-loop-slot l = l.made.items ≡ map (each_of l.own l.t.0) (take l.slot-index l.slots)
