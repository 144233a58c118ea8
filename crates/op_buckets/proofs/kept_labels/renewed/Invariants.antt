use Rattle.std.proofs.Common.{◌≡◌}
use Rattle.op_buckets.specs.Histograms.{AreRead}
use Rattle.op_buckets.proofs.Keeping.{mixed}
use Rattle.op_buckets.proofs.kept_labels.renewed.Given as goal

abbrev pub invariant-loop-i : goal.invariant-loop-i
invariant-loop-i l = record {
  fed : l.kept.fed.items ≡ mixed l.i l.labels l.fn.before.fed.items;
  read : AreRead l.kept.fed.items l.kept.histograms.items l.kept.bounds.items;
}
