use Rattle.std.proofs.Common.{take}
use Rattle.op_match.specs.Places.{ArePairs, IsAfter, names_fed, rows_in}
use Rattle.op_match.proofs.meeting.join_slots.Given as goal

abbrev pub invariant-loop-slot : goal.invariant-loop-slot
invariant-loop-slot l = record {
  after : IsAfter l.fn.matching l.fn.rows l.matching l.rows;
  pairs : ArePairs l.fn.matching.op l.fn.matching.pairing l.fn.matching.signatures.labels l.rows.labels (rows_in (names_fed l.fn.matching.many) (take l.slot-index l.many)) (rows_in (names_fed l.fn.matching.ones) l.ones) l.found;
}
