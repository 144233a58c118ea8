use Rattle.std.proofs.Common.{◌≡◌, drop, take}
use Rattle.step_batch.specs.Lent.{stages}
use Rattle.op_labels.specs.Rules.{AreMade, relabellings}
use Rattle.step_put.specs.Feeding.{Follow}
use Rattle.op_labels.proofs.relabelled.put_all.Given as goal

abbrev pub invariant-loop-i : goal.invariant-loop-i
invariant-loop-i l = record {
  left : l.made.left ≡ l.fn.made.left;
  fed : l.made.fed ≡ l.fn.made.fed;
  follow : Follow l.made.lent (drop l.i l.rows.steps);
  lent : (kept rule : _) → AreMade kept rule l.rows.labels l.fn.made.fed l.fates → stages l.made.lent ≡ relabellings kept rule (take l.i (stages l.rows));
}
