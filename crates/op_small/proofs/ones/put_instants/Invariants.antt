use Rattle.std.proofs.Common.{◌≡◌, ◌∷◌, [], drop, map, take}
use Rattle.step_batch.specs.Lent.{stages}
use Rattle.op_small.specs.Rules.{bare, rule_of, small_at}
use Rattle.op_small.proofs.Lents.{Follow}
use Rattle.op_small.proofs.ones.put_instants.Given as goal

abbrev pub invariant-loop-t : goal.invariant-loop-t
invariant-loop-t l = record {
  left : l.buffer.left ≡ l.fn.buffer.left;
  fed : l.buffer.fed ≡ [] ∷ [];
  lent : stages l.buffer.lent ≡ map (small_at (rule_of l.number)) (bare (take l.t-index l.at));
  follow : Follow l.buffer.lent (drop l.t-index l.at);
}
