use Rattle.std.proofs.Common.{◌≡◌, drop}
use Rattle.label_set.specs.Labels.{labels_cmp}
use Rattle.label_set.proofs.pairs.Pairs.compare.Given as goal

abbrev pub invariant-loop-i : goal.invariant-loop-i
invariant-loop-i l = labels_cmp l.self l.other ≡ labels_cmp (drop l.i l.self) (drop l.i l.other)
