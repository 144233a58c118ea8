use Rattle.std.proofs.Common.{◌≡◌, ◌∷◌, [], drop, map, take}
use Rattle.step_batch.specs.Lent.{stage_of, stages}
use Rattle.op_small.specs.Rules.{names_under, small_at}
use Rattle.op_small.specs.declared.rule.SmallRule.TheVariants.{Absent}
use Rattle.op_small.proofs.Lents.{Follow, times_of}
use Rattle.op_small.proofs.ones.put_absences.Given as goal

abbrev pub invariant-loop-i : goal.invariant-loop-i
invariant-loop-i l = record {
  left : l.buffer.left ≡ l.fn.buffer.left;
  fed : l.buffer.fed ≡ names_under l.under ∷ [];
  lent : stages l.buffer.lent ≡ map (small_at (Absent l.under)) (map (stage_of l.rows.labels) (take l.i l.rows.steps));
  follow : Follow l.buffer.lent (drop l.i (times_of l.rows.steps));
}
