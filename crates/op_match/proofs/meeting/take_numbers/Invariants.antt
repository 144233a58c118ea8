use Rattle.std.proofs.Common.{take}
use Rattle.std.specs.Map.{keys_of}
use Rattle.step_put.specs.Puts.{AreAt}
use Rattle.step_table.specs.Matching.{by_signature}
use Rattle.op_match.specs.Places.{IsNumbered, names_fed, rows_in}
use Rattle.op_match.proofs.meeting.take_numbers.Given as goal

abbrev pub invariant-loop-slot : goal.invariant-loop-slot
invariant-loop-slot l = (set : _) (p : _) → IsNumbered set p l.side → AreAt set (keys_of (by_signature p (rows_in (names_fed l.side) (take l.slot-index l.slots)))) l.numbers.items
