use Rattle.std.proofs.Common.{◌≡◌, drop, take}
use Rattle.step_batch.specs.Lent.{stages}
use Rattle.op_rank.specs.Groups.{IsGrouped}
use Rattle.op_rank.specs.Rules.{first_at, made_of_each}
use Rattle.step_put.specs.Feeding.{Follow}
use Rattle.op_rank.proofs.first_rows.put_all.Given as goal

abbrev pub invariant-loop-i : goal.invariant-loop-i
invariant-loop-i l = record {
  left : l.made.left ≡ l.fn.made.left;
  fed : l.made.fed ≡ l.fn.made.fed;
  follow : Follow l.made.lent (drop l.i l.rows.steps);
  lent : (by : _) → IsGrouped by l.rows.labels l.ranking.groups.now → stages l.made.lent ≡ made_of_each (first_at l.ranking.down by) (take l.i (stages l.arg)) (take l.i (stages l.rows));
}
