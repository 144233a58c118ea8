use Rattle.std.proofs.Common.{◌≡◌, ◌≤◌, length, take}
use Rattle.std.specs.Prelude.{IsTrue}
use Rattle.op_match.specs.Places.{IsNumbered, Stays, names_fed}
use Rattle.op_match.proofs.sides.take_labels.Given as goal

abbrev pub invariant-loop-i : goal.invariant-loop-i
invariant-loop-i l = record {
  within : l.i ≤ length l.side;
  numbered : IsNumbered l.signatures.labels l.p l.side;
  kept : Stays l.fn.signatures.labels l.signatures.labels;
  fed : take l.i (names_fed l.side) ≡ take l.i l.labels;
  stayed : IsTrue l.stayed → Stays (names_fed l.fn.side) (names_fed l.side);
}
