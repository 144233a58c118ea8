use Rattle.std.proofs.Common.{◌≡◌, []}
use Rattle.step_table.specs.Operators.{all_put}
use Rattle.step_rules.specs.Absent.{pairs_among}
use Rattle.step_rules.proofs.absences.absent_labels.Given as goal

abbrev pub invariant-loop-label : goal.invariant-loop-label
invariant-loop-label l = all_put l.labels (pairs_among l.rules l.label-iterator) ≡ all_put [] (pairs_among l.rules l.initial.label-iterator)
