use Rattle.std.proofs.Common.{◌≡◌, drop}
use Rattle.label_set.specs.LabelEquality.{labels_eq}
use Rattle.label_set.proofs.pairs.Pairs.is_equal.Given as goal

abbrev pub invariant-loop-i : goal.invariant-loop-i
invariant-loop-i l = labels_eq l.self l.other ≡ labels_eq (drop l.i l.self) (drop l.i l.other)
