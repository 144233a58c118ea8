use Rattle.std.proofs.Common.{◌≡◌}
use Rattle.step_batch.specs.LentWindows.{names_of}
use Rattle.op_labels.specs.Rules.{AreMade, relabel_of}
use Rattle.op_labels.proofs.Keeping.{mixed}
use Rattle.op_labels.proofs.kept_labels.renewed_by_windows.Given as goal

abbrev pub invariant-loop-i : goal.invariant-loop-i
invariant-loop-i l = record {
  fed : l.kept.fed.items ≡ mixed l.i (names_of l.windows.rows) l.fn.before.fed.items;
  made : AreMade l.fn.patterns (relabel_of l.change) l.kept.fed.items l.kept.made.items l.kept.fates.items;
  same : l.patterns ≡ l.fn.patterns;
}
