use Rattle.std.proofs.Common.{◌≡◌, drop, map, take}
use Rattle.promql_meaning.specs.Ranks.{kept_labels}
use Rattle.step_batch.specs.Lent.{stages}
use Rattle.step_put.specs.Puts.{AreAt}
use Rattle.op_rank.specs.Quantiles.{quantile_at}
use Rattle.op_rank.specs.Rules.{made_of_each}
use Rattle.step_put.specs.Feeding.{Follow}
use Rattle.op_rank.proofs.quantiles.put_all.Given as goal

abbrev pub invariant-loop-i : goal.invariant-loop-i
invariant-loop-i l = record {
  left : l.made.left ≡ l.fn.made.left;
  fed : l.made.fed ≡ l.fn.made.fed;
  follow : Follow l.made.lent (drop l.i l.rows.steps);
  lent : (by : _) → AreAt l.fn.made.fed (map (kept_labels by) l.rows.labels) l.groups → stages l.made.lent ≡ made_of_each (quantile_at by) (take l.i (stages l.arg)) (take l.i (stages l.rows));
}
