use Rattle.std.proofs.Common.{◌≡◌, length, drop, take}
use Rattle.step_batch.specs.Lent.{stages}
use Rattle.op_set.specs.Combining.{all_combined}
use Rattle.step_put.specs.Feeding.{Follow}
use Rattle.op_set.proofs.combined.put_all.Given as goal

abbrev pub invariant-loop-i : goal.invariant-loop-i
invariant-loop-i l = record {
  labels : l.made.labels ≡ l.fn.made.labels;
  count : length l.marked ≡ length l.fn.marked;
  follow : Follow l.made (drop l.i l.left.steps);
  lent : stages l.made ≡ all_combined l.names.op l.names.pairing (take l.i (stages l.left)) (take l.i (stages l.right));
}
