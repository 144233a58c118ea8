use Rattle.std.proofs.Common.{◌≡◌, ◌∷◌, [], drop, map, take}
use Rattle.step_batch.specs.Lent.{stage_of, stages}
use Rattle.op_small.specs.Rules.{small_at}
use Rattle.op_small.specs.declared.rule.SmallRule.TheVariants.{Scalar}
use Rattle.op_small.proofs.Lents.{Follow, times_of}
use Rattle.op_small.proofs.ones.put_scalars.Given as goal

abbrev pub invariant-loop-i : goal.invariant-loop-i
invariant-loop-i l = record {
  left : l.buffer.left ≡ l.fn.buffer.left;
  fed : l.buffer.fed ≡ [] ∷ [];
  lent : stages l.buffer.lent ≡ map (small_at Scalar) (map (stage_of l.rows.labels) (take l.i l.rows.steps));
  follow : Follow l.buffer.lent (drop l.i (times_of l.rows.steps));
}
