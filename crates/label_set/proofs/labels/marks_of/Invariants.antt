use Rattle.std.proofs.Common.{take}
use Rattle.label_set.specs.Labels.{IsMarked, with_metric}
use Rattle.label_set.proofs.labels.marks_of.Given as goal

abbrev pub invariant-loop-name : goal.invariant-loop-name
invariant-loop-name l = IsMarked (with_metric l.metric (take l.name-index l.name-items)) l.pairs l.marks
