use Rattle.std.proofs.Common.{◌≡◌, ◌++◌}
use Rattle.std.specs.Vec.Iter.{into_iter_items}
use Rattle.step_table.specs.Matching.{left_rows, faults_of}
use Rattle.step_table.proofs.matching.left_rows.Given as goal

abbrev pub invariant-loop-signature : goal.invariant-loop-signature
invariant-loop-signature l = record {
  rows : l.rows ++ left_rows (into_iter_items l.signature-iterator) ≡ left_rows (into_iter_items l.initial.signature-iterator);
  faults : l.fatal ++ faults_of (into_iter_items l.signature-iterator) ≡ l.initial.fatal ++ faults_of (into_iter_items l.initial.signature-iterator);
}
