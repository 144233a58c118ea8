use Rattle.std.proofs.Common.{◌≡◌}
use Rattle.op_rank.specs.Quantiles.{made_until}
use Rattle.op_rank.proofs.Splitting.{AreOpen}
use Rattle.op_rank.proofs.quantiles.put_groups.Given as goal

abbrev pub invariant-loop-i : goal.invariant-loop-i
invariant-loop-i l = record {
  placed : l.placed.items ≡ made_until l.q l.i l.entries;
  values : AreOpen l.entries l.i l.values.items;
}
