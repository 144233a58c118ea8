use Rattle.std.proofs.Common.{◌≡◌}
use Rattle.op_buckets.specs.Splits.{made_until, noted_until}
use Rattle.op_buckets.proofs.Splitting.{AreOpen}
use Rattle.op_buckets.proofs.split.put_groups.Given as goal

abbrev pub invariant-loop-i : goal.invariant-loop-i
invariant-loop-i l = record {
  placed : l.placed.items ≡ made_until l.q l.i l.entries;
  notes : l.notes ≡ noted_until l.q l.i l.entries;
  buckets : AreOpen l.entries l.i l.buckets;
}
