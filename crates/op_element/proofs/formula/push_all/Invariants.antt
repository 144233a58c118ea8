use Rattle.std.proofs.Common.{◌≡◌, map, take}
use Rattle.op_element.specs.Rules.{slot_placed}
use Rattle.op_element.proofs.formula.push_all.Given as goal

abbrev pub invariant-loop-slot : goal.invariant-loop-slot
invariant-loop-slot l = l.placed.items ≡ map (slot_placed l.rule (l.first, l.second)) (take l.slot-index l.slots)
