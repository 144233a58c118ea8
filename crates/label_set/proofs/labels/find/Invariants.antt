use Rattle.std.proofs.Common.{◌-◌}
use Rattle.label_set.specs.Entries.{IsBetween}
use Rattle.label_set.specs.Labels.{byte_cmp}
use Rattle.label_set.proofs.labels.find.Given as goal

abbrev pub invariant-loop-low : goal.invariant-loop-low
invariant-loop-low l = IsBetween byte_cmp l.name l.pairs l.low l.high

abbrev pub decreases-loop-low : goal.decreases-loop-low
decreases-loop-low l = l.high - l.low
