use Rattle.std.proofs.Common.{◌≡◌, drop, take}
use Rattle.step_batch.specs.Lent.{stages}
use Rattle.op_element.specs.Rules.{elements}
use Rattle.step_put.specs.Feeding.{Follow}
use Rattle.op_element.proofs.elements.put_all.Given as goal

abbrev pub invariant-loop-i : goal.invariant-loop-i
invariant-loop-i l = record {
  left : l.made.left ≡ l.fn.made.left;
  fed : l.made.fed ≡ l.fn.made.fed;
  follow : Follow l.made.lent (drop l.i l.rows.steps);
  lent : stages l.made.lent ≡ elements l.rule (take l.i (stages l.first)) (take l.i (stages l.second)) (take l.i (stages l.rows));
}
