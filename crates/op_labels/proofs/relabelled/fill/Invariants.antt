use Rattle.std.proofs.Common.{◌≡◌, take}
use Rattle.op_labels.specs.Rules.{slots_placed}
use Rattle.op_labels.proofs.relabelled.fill.Given as goal

abbrev pub invariant-loop-slot : goal.invariant-loop-slot
invariant-loop-slot l = l.placed.items ≡ slots_placed l.fates (take l.slot-index l.slots)
