use Rattle.std.proofs.Common.{◌≡◌, drop, take}
use Rattle.step_batch.specs.Lent.{stages}
use Rattle.op_match.specs.Joins.{joined}
use Rattle.op_match.specs.Places.{IsMatching, IsReady, many_of, one_of}
use Rattle.step_put.specs.Feeding.{Follow}
use Rattle.op_match.proofs.joined.join_all.Given as goal

abbrev pub invariant-loop-i : goal.invariant-loop-i
invariant-loop-i l = record {
  op : l.matching.op ≡ l.fn.matching.op;
  pairing : l.matching.pairing ≡ l.fn.matching.pairing;
  matching : IsMatching l.matching l.rows.labels;
  ready : IsReady l.matching (many_of l.matching.pairing.card l.left.labels l.right.labels) (one_of l.matching.pairing.card l.left.labels l.right.labels);
  follow : Follow l.rows (drop l.i l.left.steps);
  lent : stages l.rows ≡ joined l.fn.matching.op l.fn.matching.pairing (take l.i (stages l.left)) (take l.i (stages l.right));
}
