use Rattle.std.proofs.Common.{◌≡◌, drop, take}
use Rattle.step_batch.specs.Lent.{stages}
use Rattle.op_rank.specs.ValueCounts.{IsCounting, values_counted}
use Rattle.step_put.specs.Feeding.{Follow}
use Rattle.op_rank.proofs.value_counts.put_all.Given as goal

abbrev pub invariant-loop-i : goal.invariant-loop-i
invariant-loop-i l = record {
  follow : Follow l.made (drop l.i l.rows.steps);
  lent : (by : _) → IsCounting by l.rows.labels l.counting → stages l.made ≡ values_counted by l.counting.label.now (take l.i (stages l.rows));
}
