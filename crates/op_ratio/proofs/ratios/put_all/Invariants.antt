use Rattle.std.proofs.Common.{◌≡◌, length, drop, take}
use Rattle.step_batch.specs.Lent.{stages}
use Rattle.op_ratio.specs.Ratios.{all_ratios}
use Rattle.step_put.specs.Feeding.{Follow}
use Rattle.op_ratio.proofs.ratios.put_all.Given as goal

abbrev pub invariant-loop-i : goal.invariant-loop-i
invariant-loop-i l = record {
  room : length l.noted ≡ length l.fn.noted;
  left : l.made.left ≡ l.fn.made.left;
  fed : l.made.fed ≡ l.fn.made.fed;
  follow : Follow l.made.lent (drop l.i l.sum.steps);
  lent : stages l.made.lent ≡ all_ratios (take l.i (stages l.sum)) (take l.i (stages l.count));
}
